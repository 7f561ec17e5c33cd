-- What parsing a text answers.
use Rattle.std.specs.Prelude.{[], ◌≡◌, ◌≢◌, ℕ, ◌≤◌, List, ◌∷◌, length, drop, Result, Ok, Err, IfSome}
use Rattle.lexer.specs.declared.token.Token.{Token}
use Rattle.lexer.specs.Tokens.{HasTokens, Reads}
use Rattle.lexer.specs.declared.error.LexError.TheVariants as lexer
use Rattle.syntax.specs.Terminals.{terminals_of}
use Rattle.syntax.specs.declared.declaration.Source.{Source}
use Rattle.syntax.specs.SourceTrees.{SourceTree}
use Rattle.syntax.specs.SourceViews.{source_tree}
use Rattle.syntax.specs.SourceSpelling.{source_terminals}
use Rattle.syntax.specs.Nesting.{limit, StaysWithin, PassesAt}
use Rattle.parser.specs.declared.error.ParseError.{ParseError}
use Rattle.parser.specs.Refusal.{offset_of}
use Rattle.parser.specs.declared.error.ParseError.TheVariants.{BadByte, NumberTooLarge, UnfinishedText, Unexpected, TooDeep, NoMemory}

-- the text has tokens, which nest within the limit and are those of this tree and of no other
pub record IsSource (text : List ℕ) (source : SourceTree) : Type 0 where
  pub tokens : List Token
  pub reads : HasTokens text tokens
  pub within : StaysWithin limit 0 (terminals_of text tokens)
  pub spelled : terminals_of text tokens ≡ source_terminals source
  pub only : (other : SourceTree) → terminals_of text tokens ≡ source_terminals other → other ≡ source

-- the offset at which tokens begin that are at the end of a text; where there is none, it is the text's length
abbrev pub beginning_of : List ℕ → List Token → ℕ
beginning_of text [] = length text
beginning_of text (token ∷ tokens) = token.span.start

-- an offset at which one of these tokens of a text begins, or the text's length
abbrev pub IsPlaceOf : List ℕ → List Token → ℕ → Type 0
IsPlaceOf text tokens at = (before : ℕ) × (at ≡ beginning_of text (drop before tokens))

-- the text has tokens, which nest within the limit and are those of no tree, and this is the place of one of them or the end
pub record IsNoSource (text : List ℕ) (at : ℕ) : Type 0 where
  pub tokens : List Token
  pub reads : HasTokens text tokens
  pub within : StaysWithin limit 0 (terminals_of text tokens)
  pub none : (source : SourceTree) → terminals_of text tokens ≢ source_terminals source
  pub place : IsPlaceOf text tokens at

-- the text has tokens, and at this offset stands the first at which they nest deeper than the limit
pub record IsTooDeep (text : List ℕ) (at : ℕ) : Type 0 where
  pub tokens : List Token
  pub reads : HasTokens text tokens
  pub passes : PassesAt text 0 tokens at

-- what a text is
abbrev pub Parses : List ℕ → Result SourceTree ParseError → Type 0
Parses text (Ok source) = IsSource text source
Parses text (Err (BadByte at)) = Reads text (Err (lexer.BadByte at))
Parses text (Err (NumberTooLarge at)) = Reads text (Err (lexer.NumberTooLarge at))
Parses text (Err (UnfinishedText at)) = Reads text (Err (lexer.UnfinishedText at))
Parses text (Err (Unexpected at)) = IsNoSource text at
Parses text (Err (TooDeep at)) = IsTooDeep text at
Parses text (Err NoMemory) = ⊥

-- the answer is what the text is, or that memory ran out
abbrev pub Answers : List ℕ → Result SourceTree ParseError → Type 0
Answers text (Err NoMemory) = Unit {0}
Answers text answer = Parses text answer

-- an answer without the place at which a text leaves the grammar, which no definition tells
abbrev pub without_place : Result SourceTree ParseError → Result SourceTree ParseError
without_place (Err (Unexpected at)) = Err (Unexpected 0)
without_place answer = answer

-- the tree of the source, or the error
abbrev pub tree_or_error : Result Source ParseError → Result SourceTree ParseError
tree_or_error (Ok source) = Ok (source_tree source)
tree_or_error (Err error) = Err error

-- the offset of a refusal is one of the text, or its length
abbrev pub StandsIn : List ℕ → ParseError → Type 0
StandsIn text error = IfSome (offset_of error) (λ at. at ≤ length text)
