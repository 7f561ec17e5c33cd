-- The text of terminals.
use Rattle.std.specs.Prelude.{◌≡◌, ℕ, pos, ◌≤◌, List, [], ◌∷◌, ◌++◌, map}
use Rattle.std.specs.Fmt.{signed_decimal}
use Rattle.std.specs.List.{AllByRecursion}
use Rattle.lexer.specs.declared.keyword.Keyword.{Keyword}
use Rattle.lexer.specs.declared.keyword.Keyword.TheVariants as keyword
use Rattle.lexer.specs.declared.symbol.Symbol.{Symbol}
use Rattle.lexer.specs.declared.symbol.Symbol.TheVariants as symbol
use Rattle.lexer.specs.declared.token.Token.{Token}
use Rattle.lexer.specs.declared.token.TokenKind.TheVariants as kind
use Rattle.lexer.specs.Spelling.{keyword_spelling, symbol_spelling}
use Rattle.lexer.specs.Tokens.{IsName, IsToken, HasTokens}
use Rattle.syntax.specs.Terminals.{Terminal, Name, Number, Label, Text, LeadingKeyword, OfKeyword, OfSymbol, keyword_terminal, terminals_of}

-- the bytes of a terminal
abbrev pub terminal_bytes : Terminal → List ℕ
terminal_bytes (Name name) = name.bytes
terminal_bytes (Number n) = signed_decimal n
terminal_bytes (Label label) = label.bytes
terminal_bytes (Text bytes) = bytes
terminal_bytes (LeadingKeyword terminal at) = keyword_spelling terminal
terminal_bytes (OfKeyword terminal) = keyword_spelling terminal
terminal_bytes (OfSymbol symbol) = symbol_spelling symbol

-- the white byte after a terminal: a line feed where a statement or a block ends, else a space
abbrev pub keyword_gap : Keyword → ℕ
keyword_gap keyword.End = 10
keyword_gap _ = 32

abbrev pub symbol_gap : Symbol → ℕ
symbol_gap symbol.Semicolon = 10
symbol_gap _ = 32

abbrev pub gap_after : Terminal → ℕ
gap_after (LeadingKeyword terminal at) = keyword_gap terminal
gap_after (OfKeyword terminal) = keyword_gap terminal
gap_after (OfSymbol symbol) = symbol_gap symbol
gap_after _ = 32

-- each terminal, and a white byte after it
abbrev pub text_of : List Terminal → List ℕ
text_of [] = []
text_of (terminal ∷ terminals) = terminal_bytes terminal ++ gap_after terminal ∷ text_of terminals

-- The terminal is one that some token is: names are no keywords, numbers have no sign and are at most 9223372036854775807, labels and
-- texts are whole, and of a keyword it is known whether its offset is kept.
abbrev pub IsSpelled : Terminal → Type 0
IsSpelled (Name name) = IsName name.bytes
IsSpelled (Number n) = (m : ℕ) × (m ≤ 9223372036854775807) × (n ≡ pos m)
IsSpelled (Label label) = IsToken kind.Label label.bytes
IsSpelled (Text bytes) = IsToken kind.Text bytes
IsSpelled (LeadingKeyword terminal at) = keyword_terminal terminal 0 ≡ LeadingKeyword terminal 0
IsSpelled (OfKeyword terminal) = keyword_terminal terminal 0 ≡ OfKeyword terminal
IsSpelled (OfSymbol symbol) = Unit {0}

abbrev pub AreSpelled : List Terminal → Type 0
AreSpelled terminals = AllByRecursion IsSpelled terminals

-- a terminal without its offset
abbrev pub bare : Terminal → Terminal
bare (Name name) = Name (record { bytes = name.bytes; at = 0 })
bare (Number n) = Number n
bare (Label label) = Label (record { bytes = label.bytes; at = 0 })
bare (Text bytes) = Text bytes
bare (LeadingKeyword terminal at) = LeadingKeyword terminal 0
bare (OfKeyword terminal) = OfKeyword terminal
bare (OfSymbol symbol) = OfSymbol symbol

-- the terminals are the same, but for their offsets
abbrev pub AreAlike : List Terminal → List Terminal → Type 0
AreAlike terminals others = map bare terminals ≡ map bare others

-- the text has tokens, and they are these terminals but for the offsets
pub record HasTerminals (text : List ℕ) (terminals : List Terminal) : Type 0 where
  pub tokens : List Token
  pub reads : HasTokens text tokens
  pub alike : AreAlike (terminals_of text tokens) terminals
