-- What the steps of the reader say of the bytes at the front. No public contract cites these.
use Rattle.std.specs.Prelude.{[], ℕ, ◌==◌, if◌then◌else◌, ◌≡◌, Bool, false, List, ◌∷◌, ◌≤◌, length, take, drop, ◌<◌, ◌≢◌, ◌++◌, Option, MatchOption}
use Rattle.std.specs.Char.{is_ascii_digit}
use Rattle.lexer.specs.Spelling.{is_white, is_letter, Every, symbol_spelling}
use Rattle.lexer.specs.Tokens.{PieceKind, IsLongest, IsSmall, Lexeme, IsGap, BeginsBadByte, BeginsUnfinishedText, BeginsLargeNumber}
use Rattle.lexer.specs.declared.front.Front.{Front}
use Rattle.lexer.specs.declared.symbol.Symbol.{Symbol}
use Rattle.lexer.specs.declared.front.Front.TheVariants as front

-- what a first byte says of the piece that it begins
pub data Class : Type 0 where
  Blank : Class
  Letter : Class
  Digit : Class
  Hash : Class
  Quote : Class
  Punctuation : Class

abbrev pub class_of : ℕ → Class
class_of b =
    if is_white b then Blank else
    if is_letter b then Letter else
    if is_ascii_digit b then Digit else
    if b == 35 then Hash else
    if b == 34 then Quote else
    Punctuation

-- a run of the test does not continue
abbrev pub EndsRun : (ℕ → Bool) → List ℕ → Type 0
EndsRun test [] = Unit {0}
EndsRun test (b ∷ bytes) = test b ≡ false

-- as many bytes at the front pass the test as do before the first that does not
abbrev pub IsRun : (ℕ → Bool) → List ℕ → ℕ → Type 0
IsRun test bytes len = (len ≤ length bytes) × Every test (take len bytes) × EndsRun test (drop len bytes)

-- the longest piece at the front is of this kind and this many bytes
pub record IsFirst (kind : PieceKind) (bytes : List ℕ) (len : ℕ) : Type 0 where
  pub some : 0 < len
  pub within : len ≤ length bytes
  pub longest : IsLongest (record { kind = kind; text = take len bytes }) (drop len bytes)
  pub small : IsSmall kind

-- what is at the front
abbrev pub IsFront : List ℕ → Front → Type 0
IsFront bytes (front.Gap len) = (kind : PieceKind) × IsGap kind × IsFirst kind bytes len
IsFront bytes (front.Token kind len) = IsFirst (Lexeme kind) bytes len
IsFront bytes front.BadByte = BeginsBadByte bytes
IsFront bytes front.NumberTooLarge = BeginsLargeNumber bytes
IsFront bytes front.UnfinishedText = BeginsUnfinishedText bytes

-- the symbol that a word and the = after it are, or that they are none
abbrev pub IsReduction : List ℕ → List ℕ → Option Symbol → Type 0
IsReduction word rest found = MatchOption found
    ((symbol : Symbol) (others : List ℕ) → rest ≡ 61 ∷ others → symbol_spelling symbol ≢ word ++ 61 ∷ [])
    (λ symbol. (symbol_spelling symbol ≡ word ++ 61 ∷ []) × (others : List ℕ) × (rest ≡ 61 ∷ others))

-- the symbol that a byte and the first of the rest are, or that they are none
abbrev pub IsPair : ℕ → List ℕ → Option Symbol → Type 0
IsPair first rest found = MatchOption found
    ((second : ℕ) (others : List ℕ) → rest ≡ second ∷ others → (symbol : Symbol) → symbol_spelling symbol ≢ first ∷ second ∷ [])
    (λ symbol. (second : ℕ) × (others : List ℕ) × (rest ≡ second ∷ others) × (symbol_spelling symbol ≡ first ∷ second ∷ []))
