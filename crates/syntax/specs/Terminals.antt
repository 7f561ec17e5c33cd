-- The terminals that the grammar speaks of.
use Rattle.std.specs.Prelude.{ℕ, ℤ, List, map}
use Rattle.lexer.specs.declared.keyword.Keyword.{Keyword}
use Rattle.lexer.specs.declared.keyword.Keyword.TheVariants as keyword
use Rattle.lexer.specs.declared.symbol.Symbol.{Symbol}
use Rattle.lexer.specs.declared.token.Token.{Token}
use Rattle.lexer.specs.declared.token.TokenKind.{TokenKind}
use Rattle.lexer.specs.declared.token.TokenKind.TheVariants as kind
use Rattle.lexer.specs.Tokens.{slice_of}

-- the bytes of a name, and the offset at which it is in its text
pub record Identifier : Type 0 where
  pub bytes : List ℕ
  pub at : ℕ

-- a token without its place, but for the place of a name, of a label, and of a keyword that opens a declaration, a statement or
-- a call of the schedule
pub data Terminal : Type 0 where
  Name : Identifier → Terminal
  Number : ℤ → Terminal
  Label : Identifier → Terminal
  Text : List ℕ → Terminal
  LeadingKeyword : Keyword → ℕ → Terminal
  OfKeyword : Keyword → Terminal
  OfSymbol : Symbol → Terminal

-- the terminal that a keyword at this offset is
abbrev pub keyword_terminal : Keyword → ℕ → Terminal
keyword_terminal keyword.Const at = LeadingKeyword keyword.Const at
keyword_terminal keyword.Func at = LeadingKeyword keyword.Func at
keyword_terminal keyword.Var at = LeadingKeyword keyword.Var at
keyword_terminal keyword.While at = LeadingKeyword keyword.While at
keyword_terminal keyword.For at = LeadingKeyword keyword.For at
keyword_terminal keyword.If at = LeadingKeyword keyword.If at
keyword_terminal keyword.Print at = LeadingKeyword keyword.Print at
keyword_terminal keyword.ConfigApplyDirection at = LeadingKeyword keyword.ConfigApplyDirection at
keyword_terminal keyword.ConfigApplyParallelization at = LeadingKeyword keyword.ConfigApplyParallelization at
keyword_terminal keyword.ConfigApplyDenseVertexSet at = LeadingKeyword keyword.ConfigApplyDenseVertexSet at
keyword_terminal keyword.FuseApplyFunctions at = LeadingKeyword keyword.FuseApplyFunctions at
keyword_terminal keyword.FuseFields at = LeadingKeyword keyword.FuseFields at
keyword_terminal terminal at = OfKeyword terminal

-- the terminal that a token of this kind is, with its bytes and its offset
abbrev pub terminal_of : TokenKind → List ℕ → ℕ → Terminal
terminal_of kind.Name bytes at = Name (record { bytes = bytes; at = at })
terminal_of (kind.Number n) bytes at = Number n
terminal_of kind.Label bytes at = Label (record { bytes = bytes; at = at })
terminal_of kind.Text bytes at = Text bytes
terminal_of (kind.Keyword terminal) bytes at = keyword_terminal terminal at
terminal_of (kind.Symbol symbol) bytes at = OfSymbol symbol

-- the terminals that tokens of a text are
abbrev pub terminals_of : List ℕ → List Token → List Terminal
terminals_of text tokens = map (λ token. terminal_of token.kind (slice_of text token.span) token.span.start) tokens
