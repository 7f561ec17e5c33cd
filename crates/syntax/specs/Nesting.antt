-- How deep terminals are in what is opened and not closed yet.
use Rattle.std.specs.Prelude.{[], ◌≡◌, ℕ, zero, suc, ◌<◌, ◌≤◌, List, ◌∷◌, ◌⊎◌, Option, Some, None}
use Rattle.lexer.specs.declared.keyword.Keyword.{Keyword}
use Rattle.lexer.specs.declared.symbol.Symbol.{Symbol}
use Rattle.lexer.specs.declared.token.Token.{Token}
use Rattle.lexer.specs.Tokens.{slice_of}
use Rattle.lexer.specs.declared.keyword.Keyword.TheVariants as keyword
use Rattle.lexer.specs.declared.symbol.Symbol.TheVariants as symbol
use Rattle.syntax.specs.Terminals.{Terminal, LeadingKeyword, OfKeyword, OfSymbol, terminal_of}
use Rattle.syntax.specs.declared.nesting.Change.{Change}
use Rattle.syntax.specs.declared.nesting.Change.TheVariants.{Opens, Closes, Keeps}

-- the most that may be open at once
abbrev pub limit : ℕ
limit = 64

abbrev pub keyword_change : Keyword → Change
keyword_change keyword.Element = Opens
keyword_change keyword.Func = Opens
keyword_change keyword.While = Opens
keyword_change keyword.For = Opens
keyword_change keyword.If = Opens
keyword_change keyword.End = Closes
keyword_change _ = Keeps

abbrev pub symbol_change : Symbol → Change
symbol_change symbol.OpenParenthesis = Opens
symbol_change symbol.OpenBracket = Opens
symbol_change symbol.CloseParenthesis = Closes
symbol_change symbol.CloseBracket = Closes
symbol_change _ = Keeps

abbrev pub terminal_change : Terminal → Change
terminal_change (LeadingKeyword terminal at) = keyword_change terminal
terminal_change (OfKeyword terminal) = keyword_change terminal
terminal_change (OfSymbol symbol) = symbol_change symbol
terminal_change _ = Keeps

abbrev one_less : ℕ → ℕ
one_less zero = zero
one_less (suc n) = n

abbrev changed : Change → ℕ → ℕ
changed Opens n = suc n
changed Closes n = one_less n
changed Keeps n = n

-- how much is open after a terminal
abbrev pub nesting_after : Terminal → ℕ → ℕ
nesting_after terminal n = changed (terminal_change terminal) n

-- after no terminal is more open than this
abbrev pub StaysWithin : ℕ → ℕ → List Terminal → Type 0
StaysWithin most n [] = Unit {0}
StaysWithin most n (terminal ∷ terminals) = (nesting_after terminal n ≤ most) × StaysWithin most (nesting_after terminal n) terminals

-- The first of these tokens of a text after which more is open than the limit is at this offset; n are open before them.
abbrev pub PassesAt : List ℕ → ℕ → List Token → ℕ → Type 0
PassesAt text n [] at = ⊥
PassesAt text n (token ∷ tokens) at =
    let behind = nesting_after (terminal_of token.kind (slice_of text token.span) token.span.start) n in
    ((limit < behind) × (at ≡ token.span.start)) ⊎ ((behind ≤ limit) × PassesAt text behind tokens at)

infixl 10 ◌>>=◌
abbrev pub ◌>>=◌ : {A B : Type 0} → Option A → (A → Option B) → Option B
None >>= f = None
(Some x) >>= f = f x
