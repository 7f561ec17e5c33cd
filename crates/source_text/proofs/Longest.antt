-- A terminal before a white byte is the longest token at its place.
use Rattle.std.proofs.Common.{◌≡◌, ℕ, pos, ◌<◌, ◌≤◌, true, false, List, [], ◌∷◌, ◌++◌, length, get_or, codes, decimal, refl, sym, ◌∙◌, ap, subst, arith}
use Rattle.std.specs.Char.{is_ascii_digit}
use Rattle.std.specs.Str.{all_ascii_digits}
use Rattle.std.proofs.lemmas.Bool.{and_parts, false≢true}
use Rattle.std.proofs.lemmas.Bool.Decides.{nat_tests}
use Rattle.std.proofs.lemmas.Fmt.{digits_decimal, digits_value-decimal, decimal_nonempty}
use Rattle.decimal.proofs.NumberLaws.{digits_model}
use Rattle.lexer.specs.declared.symbol.Symbol.{Symbol}
use Rattle.lexer.specs.declared.symbol.Symbol.TheVariants as symbol
use Rattle.lexer.specs.declared.token.TokenKind.{TokenKind}
use Rattle.lexer.specs.declared.token.TokenKind.TheVariants as kind
use Rattle.lexer.specs.Spelling.{is_white, is_word_byte, keyword_spelling, symbol_spelling}
use Rattle.lexer.specs.inside.Runs.{EndsRun}
use Rattle.lexer.specs.Tokens.{IsWord, Lexeme, IsLongest}
use Rattle.lexer.proofs.LongestLaws.{IsNoReduction, IsNoPair, word_longest, number_longest, label_longest, text_longest, reduction_longest, pair_longest, single_longest}
use Rattle.lexer.proofs.ShapeLaws.{digit-not_white, letter-not_white}
use Rattle.lexer.proofs.SpellingLaws.{keyword_spelling-IsWord}
use Rattle.syntax.specs.Terminals.{Terminal, Name, Number, Label, Text, LeadingKeyword, OfKeyword, OfSymbol}
use Rattle.source_text.specs.Text.{terminal_bytes, IsSpelled}

-- the kind of token that a terminal is
abbrev pub kind_of : Terminal → TokenKind
kind_of (Name name) = kind.Name
kind_of (Number n) = kind.Number n
kind_of (Label label) = kind.Label
kind_of (Text bytes) = kind.Text
kind_of (LeadingKeyword terminal at) = kind.Keyword terminal
kind_of (OfKeyword terminal) = kind.Keyword terminal
kind_of (OfSymbol symbol) = kind.Symbol symbol

white-not_terminal : (b : ℕ) → is_white b ≡ true → is_word_byte b ≡ false
white-not_terminal b white = grind (arith, nat_tests)

white-not_digit : (b : ℕ) → is_white b ≡ true → is_ascii_digit b ≡ false
white-not_digit b white = grind (arith, nat_tests)

-- no symbol has a white byte
no_reduction : (text rest : List ℕ) (b : ℕ) → is_white b ≡ true → IsNoReduction text (b ∷ rest)
no_reduction text rest b white symbol others same spelled =
    let e : b ≡ 61 = cc (same) in
    false≢true (sym (ap is_white e) ∙ white)

no_white_second : (s : Symbol) → is_white (get_or (symbol_spelling s) 1 0) ≡ true → ⊥
no_white_second symbol.Slash white = false≢true white
no_white_second _ white = false≢true white

no_pair : (a b : ℕ) (rest : List ℕ) → is_white b ≡ true → IsNoPair a (b ∷ rest)
no_pair a b rest white c others same =
    let e : b ≡ c = cc (same) in
    let white_too : is_white c ≡ true = sym (ap is_white e) ∙ white in (
      λ symbol spelled. no_white_second symbol (ap (λ t. is_white (get_or t 1 0)) spelled ∙ white_too),
      λ first second. false≢true (sym (ap is_white second) ∙ white_too),
    )

-- the piece is the longest before a white byte
abbrev IsLongestBefore : ℕ → TokenKind → List ℕ → Type 0
IsLongestBefore b kind text = (rest : List ℕ) → IsLongest (record { kind = Lexeme kind; text = text }) (b ∷ rest)

symbol_before : (s : Symbol) (b : ℕ) → is_white b ≡ true → IsLongestBefore b (kind.Symbol s) (symbol_spelling s)
symbol_before symbol.OpenParenthesis b white rest = single_longest symbol.OpenParenthesis 40 (b ∷ rest) refl refl (no_pair 40 b rest white)
symbol_before symbol.CloseParenthesis b white rest = single_longest symbol.CloseParenthesis 41 (b ∷ rest) refl refl (no_pair 41 b rest white)
symbol_before symbol.OpenBracket b white rest = single_longest symbol.OpenBracket 91 (b ∷ rest) refl refl (no_pair 91 b rest white)
symbol_before symbol.CloseBracket b white rest = single_longest symbol.CloseBracket 93 (b ∷ rest) refl refl (no_pair 93 b rest white)
symbol_before symbol.OpenBrace b white rest = single_longest symbol.OpenBrace 123 (b ∷ rest) refl refl (no_pair 123 b rest white)
symbol_before symbol.CloseBrace b white rest = single_longest symbol.CloseBrace 125 (b ∷ rest) refl refl (no_pair 125 b rest white)
symbol_before symbol.Comma b white rest = single_longest symbol.Comma 44 (b ∷ rest) refl refl (no_pair 44 b rest white)
symbol_before symbol.Semicolon b white rest = single_longest symbol.Semicolon 59 (b ∷ rest) refl refl (no_pair 59 b rest white)
symbol_before symbol.Colon b white rest = single_longest symbol.Colon 58 (b ∷ rest) refl refl (no_pair 58 b rest white)
symbol_before symbol.Dot b white rest = single_longest symbol.Dot 46 (b ∷ rest) refl refl (no_pair 46 b rest white)
symbol_before symbol.Assign b white rest = single_longest symbol.Assign 61 (b ∷ rest) refl refl (no_pair 61 b rest white)
symbol_before symbol.Less b white rest = single_longest symbol.Less 60 (b ∷ rest) refl refl (no_pair 60 b rest white)
symbol_before symbol.Greater b white rest = single_longest symbol.Greater 62 (b ∷ rest) refl refl (no_pair 62 b rest white)
symbol_before symbol.Plus b white rest = single_longest symbol.Plus 43 (b ∷ rest) refl refl (no_pair 43 b rest white)
symbol_before symbol.Minus b white rest = single_longest symbol.Minus 45 (b ∷ rest) refl refl (no_pair 45 b rest white)
symbol_before symbol.Star b white rest = single_longest symbol.Star 42 (b ∷ rest) refl refl (no_pair 42 b rest white)
symbol_before symbol.Slash b white rest = single_longest symbol.Slash 47 (b ∷ rest) refl refl (no_pair 47 b rest white)
symbol_before symbol.Percent b white rest = single_longest symbol.Percent 37 (b ∷ rest) refl refl (no_pair 37 b rest white)
symbol_before symbol.Equal b white rest = pair_longest symbol.Equal 61 61 (b ∷ rest) refl refl (λ p q. omega arith)
symbol_before symbol.NotEqual b white rest = pair_longest symbol.NotEqual 33 61 (b ∷ rest) refl refl (λ p q. omega arith)
symbol_before symbol.LessOrEqual b white rest = pair_longest symbol.LessOrEqual 60 61 (b ∷ rest) refl refl (λ p q. omega arith)
symbol_before symbol.GreaterOrEqual b white rest = pair_longest symbol.GreaterOrEqual 62 61 (b ∷ rest) refl refl (λ p q. omega arith)
symbol_before symbol.Arrow b white rest = pair_longest symbol.Arrow 45 62 (b ∷ rest) refl refl (λ p q. omega arith)
symbol_before symbol.PlusAssign b white rest = pair_longest symbol.PlusAssign 43 61 (b ∷ rest) refl refl (λ p q. omega arith)
symbol_before symbol.MinAssign b white rest = reduction_longest symbol.MinAssign (codes "min") (b ∷ rest) (refl, (refl, (refl, tt))) refl
symbol_before symbol.MaxAssign b white rest = reduction_longest symbol.MaxAssign (codes "max") (b ∷ rest) (refl, (refl, (refl, tt))) refl

-- the digits of a number
below : (m : ℕ) → m ≤ 9223372036854775807 → m < 18446744073709551616
below m small = omega arith

number_before : (m b : ℕ) → m ≤ 9223372036854775807 → is_white b ≡ true → IsLongestBefore b (kind.Number (pos m)) (decimal m)
number_before m b small white rest =
    subst (λ n. IsLongest (record { kind = Lexeme (kind.Number (pos n)); text = decimal m }) (b ∷ rest)) (digits_value-decimal digits_model m (below m small))
    (number_longest (decimal m) (b ∷ rest) (decimal_nonempty m (below m small)) (digits_decimal digits_model m (below m small)) (white-not_digit b white))

pub terminal_before : (w : Terminal) (b : ℕ) → IsSpelled w → is_white b ≡ true → IsLongestBefore b (kind_of w) (terminal_bytes w)
terminal_before (Name name) b is white rest =
    word_longest (Lexeme kind.Name) name.bytes (b ∷ rest) is.0 is (white-not_terminal b white) (no_reduction name.bytes rest b white)
terminal_before (Number n) b is white rest = rw (is.2) (number_before is.0 b is.1 white rest)
terminal_before (Label label) b is white rest = rw (is.2) (label_longest is.0 (b ∷ rest) is.1)
terminal_before (Text bytes) b is white rest = rw (is.2) (text_longest is.0 (b ∷ rest) is.1)
terminal_before (LeadingKeyword terminal at) b is white rest =
    word_longest (Lexeme (kind.Keyword terminal)) (keyword_spelling terminal) (b ∷ rest) (keyword_spelling-IsWord terminal) refl (white-not_terminal b white)
    (no_reduction (keyword_spelling terminal) rest b white)
terminal_before (OfKeyword terminal) b is white rest =
    word_longest (Lexeme (kind.Keyword terminal)) (keyword_spelling terminal) (b ∷ rest) (keyword_spelling-IsWord terminal) refl (white-not_terminal b white)
    (no_reduction (keyword_spelling terminal) rest b white)
terminal_before (OfSymbol symbol) b is white rest = symbol_before symbol b white rest

-- a terminal does not begin with a white byte
terminal_first : (text more : List ℕ) → IsWord text → EndsRun is_white (text ++ more)
terminal_first [] more terminal = absurd terminal
terminal_first (b ∷ text) more terminal = letter-not_white b terminal.0

digits_first : (text more : List ℕ) → 0 < length text → all_ascii_digits text ≡ true → EndsRun is_white (text ++ more)
digits_first [] more some digits = absurd (omega arith)
digits_first (b ∷ text) more some digits = digit-not_white b (and_parts (is_ascii_digit b) (all_ascii_digits text) digits).0

symbol_first : (s : Symbol) (more : List ℕ) → EndsRun is_white (symbol_spelling s ++ more)
symbol_first symbol.Slash more = refl
symbol_first _ more = refl

pub first_not_white : (w : Terminal) (more : List ℕ) → IsSpelled w → EndsRun is_white (terminal_bytes w ++ more)
first_not_white (Name name) more is = terminal_first name.bytes more is.0
first_not_white (Number n) more is = rw (is.2) (digits_first (decimal is.0) more (decimal_nonempty is.0 (below is.0 is.1)) (digits_decimal digits_model is.0 (below is.0 is.1)))
first_not_white (Label label) more is = rw (is.2) refl
first_not_white (Text bytes) more is = rw (is.2) refl
first_not_white (LeadingKeyword terminal at) more is = terminal_first (keyword_spelling terminal) more (keyword_spelling-IsWord terminal)
first_not_white (OfKeyword terminal) more is = terminal_first (keyword_spelling terminal) more (keyword_spelling-IsWord terminal)
first_not_white (OfSymbol symbol) more is = symbol_first symbol more
