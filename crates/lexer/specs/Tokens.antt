-- Tokens: which texts are tokens, which tokens a text has and where they are in it, and where a text without is at fault.
use Rattle.std.specs.Prelude.{◌≡◌, ◌≢◌, ℕ, pos, ◌+◌, ◌-◌, ◌<◌, ◌≤◌, ◌≤ℤ◌, true, List, [], ◌∷◌, ◌++◌, length, take, drop, Result, Ok, Err}
use Rattle.std.specs.Str.{all_ascii_digits}
use Rattle.std.specs.List.{AllByRecursion}
use Rattle.decimal.specs.Numbers.{digits_number}
use Rattle.lexer.specs.declared.keyword.Keyword.{Keyword}
use Rattle.lexer.specs.declared.token.Span.{Span}
use Rattle.lexer.specs.declared.token.Token.{Token}
use Rattle.lexer.specs.declared.token.TokenKind.{TokenKind}
use Rattle.lexer.specs.declared.token.TokenKind.TheVariants as kind
use Rattle.lexer.specs.declared.error.LexError.{LexError}
use Rattle.lexer.specs.declared.error.LexError.TheVariants.{BadByte, NumberTooLarge, UnfinishedText, NoMemory}
use Rattle.lexer.specs.Spelling.{Every, is_white, is_letter, is_word_byte, is_quotable, is_in_line, keyword_spelling, symbol_spelling}

-- a letter or an underscore, and then letters, digits and underscores
abbrev pub IsWord : List ℕ → Type 0
IsWord [] = ⊥
IsWord (b ∷ bytes) = (is_letter b ≡ true) × Every is_word_byte bytes

-- a word that is not reserved
abbrev pub IsName : List ℕ → Type 0
IsName text = IsWord text × ((word : Keyword) → text ≢ keyword_spelling word)

-- The text is a token of this kind, of a number of any size. The quote is byte 34, and # is byte 35.
abbrev pub IsToken : TokenKind → List ℕ → Type 0
IsToken kind.Name text = IsName text
IsToken (kind.Number n) text = (0 < length text) × (all_ascii_digits text ≡ true) × (n ≡ pos (digits_number text))
IsToken kind.Label text = (name : List ℕ) × IsName name × (text ≡ 35 ∷ name ++ 35 ∷ [])
IsToken kind.Text text = (inside : List ℕ) × Every is_quotable inside × (text ≡ 34 ∷ inside ++ 34 ∷ [])
IsToken (kind.Keyword word) text = text ≡ keyword_spelling word
IsToken (kind.Symbol symbol) text = text ≡ symbol_spelling symbol

-- what a text is made of
pub data PieceKind : Type 0 where
  White : PieceKind
  Comment : PieceKind
  Lexeme : TokenKind → PieceKind

-- The text is a piece of this kind. White bytes stand together, and a comment goes from // up to a line feed; / is byte 47.
abbrev pub IsPiece : PieceKind → List ℕ → Type 0
IsPiece White text = (0 < length text) × Every is_white text
IsPiece Comment text = (inside : List ℕ) × Every is_in_line inside × (text ≡ 47 ∷ 47 ∷ inside)
IsPiece (Lexeme kind) text = IsToken kind text

-- what stands between tokens
abbrev pub IsGap : PieceKind → Type 0
IsGap White = Unit {0}
IsGap Comment = Unit {0}
IsGap (Lexeme kind) = ⊥

pub record Piece : Type 0 where
  pub kind : PieceKind
  pub text : List ℕ

-- The piece is the longest at its place, before the rest: no piece has its bytes and then some of the rest.
pub record IsLongest (piece : Piece) (rest : List ℕ) : Type 0 where
  pub is : IsPiece piece.kind piece.text
  pub longest : (kind : PieceKind) (more others : List ℕ) → rest ≡ more ++ others → IsPiece kind (piece.text ++ more) → more ≡ []

-- the pieces one after the other
abbrev pub bytes_of : List Piece → List ℕ
bytes_of [] = []
bytes_of (piece ∷ pieces) = piece.text ++ bytes_of pieces

-- each piece is the longest at its place, before the rest
abbrev pub AreLongest : List Piece → List ℕ → Type 0
AreLongest [] rest = Unit {0}
AreLongest (piece ∷ pieces) rest = IsLongest piece (bytes_of pieces ++ rest) × AreLongest pieces rest

-- a number is at most 9223372036854775807
abbrev pub IsSmall : PieceKind → Type 0
IsSmall (Lexeme (kind.Number n)) = n ≤ℤ pos 9223372036854775807
IsSmall _ = Unit {0}

abbrev pub AreSmall : List Piece → Type 0
AreSmall [] = Unit {0}
AreSmall (piece ∷ pieces) = IsSmall piece.kind × AreSmall pieces

-- the text is these pieces, each the longest at its place, and then the rest
pub record IsReadUpTo (text : List ℕ) (pieces : List Piece) (rest : List ℕ) : Type 0 where
  pub whole : text ≡ bytes_of pieces ++ rest
  pub longest : AreLongest pieces rest
  pub small : AreSmall pieces

-- the token that a piece is, from start up to end: none for white bytes and comments
abbrev pub token_of : PieceKind → ℕ → ℕ → List Token
token_of White start end = []
token_of Comment start end = []
token_of (Lexeme kind) start end = record { kind = kind; span = record { start = start; end = end } } ∷ []

-- the tokens of pieces that begin at an offset
abbrev pub tokens_from : ℕ → List Piece → List Token
tokens_from at [] = []
tokens_from at (piece ∷ pieces) =
    token_of piece.kind at (at + length piece.text) ++ tokens_from (at + length piece.text) pieces

-- the text is pieces, each the longest at its place, and these are its tokens
abbrev pub HasTokens : List ℕ → List Token → Type 0
HasTokens text tokens = (pieces : List Piece) × IsReadUpTo text pieces [] × (tokens ≡ tokens_from 0 pieces)

-- no piece is at the front
abbrev pub BeginsNoPiece : List ℕ → Type 0
BeginsNoPiece text = (kind : PieceKind) (front rest : List ℕ) → text ≡ front ++ rest → IsPiece kind front → ⊥

-- a byte that begins no token
abbrev pub BeginsBadByte : List ℕ → Type 0
BeginsBadByte [] = ⊥
BeginsBadByte (b ∷ bytes) = (b ≢ 34) × BeginsNoPiece (b ∷ bytes)

-- a quote with which no text in quotes begins
abbrev pub BeginsUnfinishedText : List ℕ → Type 0
BeginsUnfinishedText [] = ⊥
BeginsUnfinishedText (b ∷ bytes) = (b ≡ 34) × BeginsNoPiece (b ∷ bytes)

-- digits, as many as are there, for a number that is too large
abbrev pub BeginsLargeNumber : List ℕ → Type 0
BeginsLargeNumber text = (digits : List ℕ) × (rest : List ℕ) × (text ≡ digits ++ rest)
    × IsLongest (record { kind = Lexeme (kind.Number (pos (digits_number digits))); text = digits }) rest
    × (9223372036854775807 < digits_number digits)

-- after pieces, each the longest at its place, the fault is at this offset
abbrev pub FaultsAt : (List ℕ → Type 0) → List ℕ → ℕ → Type 0
FaultsAt BeginsFault text at = (pieces : List Piece) × (rest : List ℕ) × IsReadUpTo text pieces rest
    × BeginsFault rest × (at ≡ length (bytes_of pieces))

-- how a text reads: its tokens, or its first fault
abbrev pub Reads : List ℕ → Result (List Token) LexError → Type 0
Reads text (Ok tokens) = HasTokens text tokens
Reads text (Err (BadByte at)) = FaultsAt BeginsBadByte text at
Reads text (Err (NumberTooLarge at)) = FaultsAt BeginsLargeNumber text at
Reads text (Err (UnfinishedText at)) = FaultsAt BeginsUnfinishedText text at
Reads text (Err NoMemory) = ⊥

-- the span is one of the text
abbrev pub IsSpanWithin : List ℕ → Span → Type 0
IsSpanWithin text span = (span.start ≤ span.end) × (span.end ≤ length text)

-- the bytes at a span
abbrev pub slice_of : List ℕ → Span → List ℕ
slice_of text span = take (span.end - span.start) (drop span.start text)

-- white bytes and comments, one after the other
abbrev pub AreGaps : List ℕ → Type 0
AreGaps text = (gaps : List Piece) × AllByRecursion (λ gap. IsGap gap.kind × IsPiece gap.kind gap.text) gaps × (text ≡ bytes_of gaps)

-- From an offset on the tokens are in the text one after the other, each with its own bytes at its span, and nothing
-- but gaps before, between and after them.
abbrev pub AreTokensFrom : List ℕ → ℕ → List Token → Type 0
AreTokensFrom text from [] = AreGaps (drop from text)
AreTokensFrom text from (token ∷ tokens) =
    (from ≤ token.span.start) × IsSpanWithin text token.span
    × AreGaps (slice_of text (record { start = from; end = token.span.start }))
    × IsToken token.kind (slice_of text token.span)
    × AreTokensFrom text token.span.end tokens
