-- Laws of what a piece is that begins with a given byte.
use Rattle.std.proofs.Common.{◌≡◌, ◌≢◌, ℕ, ◌⊎◌, inl, inr, true, false, List, [], ◌∷◌, get_or, refl, sym, subst, arith}
use Rattle.std.specs.Char.{is_ascii_digit}
use Rattle.std.specs.Str.{all_ascii_digits}
use Rattle.std.proofs.lemmas.Bool.{and_parts}
use Rattle.std.proofs.lemmas.Bool.Decides.{nat_tests}
use Rattle.lexer.specs.declared.symbol.Symbol.{Symbol}
use Rattle.lexer.specs.declared.token.TokenKind.TheVariants as kind
use Rattle.lexer.specs.Spelling.{Every, is_white, is_letter, symbol_spelling}
use Rattle.lexer.specs.inside.Runs.{Class, Blank, Letter, Digit, Hash, Quote, Punctuation, class_of}
use Rattle.lexer.specs.Tokens.{IsWord, PieceKind, White, Comment, Lexeme, IsPiece}
use Rattle.lexer.proofs.SpellingLaws.{keyword_spelling-IsWord, SymbolShape, symbol_spelling-SymbolShape}

pub class_of-white : (b : ℕ) → is_white b ≡ true → class_of b ≡ Blank
class_of-white b white = rw white refl

pub letter-not_white : (b : ℕ) → is_letter b ≡ true → is_white b ≡ false
letter-not_white b letter = grind (arith, nat_tests)

pub class_of-letter : (b : ℕ) → is_letter b ≡ true → class_of b ≡ Letter
class_of-letter b letter = rw (letter-not_white b letter, letter) refl

pub digit-not_white : (b : ℕ) → is_ascii_digit b ≡ true → is_white b ≡ false
digit-not_white b digit = grind (arith, nat_tests)

digit-not_letter : (b : ℕ) → is_ascii_digit b ≡ true → is_letter b ≡ false
digit-not_letter b digit = grind (arith, nat_tests)

pub class_of-digit : (b : ℕ) → is_ascii_digit b ≡ true → class_of b ≡ Digit
class_of-digit b digit = rw (digit-not_white b digit, digit-not_letter b digit, digit) refl

pub class_of-mark : (b : ℕ) → is_white b ≡ false → is_letter b ≡ false → is_ascii_digit b ≡ false → b ≢ 35 → b ≢ 34 → class_of b ≡ Punctuation
class_of-mark b white letter digit hash quote = grind (arith, nat_tests)

-- what a piece is that begins with a byte of this class
abbrev pub PieceShape : Class → List ℕ → Type 0
PieceShape Blank text = Every is_white text
PieceShape Letter text = IsWord text ⊎ SymbolShape Letter text
PieceShape Digit text = all_ascii_digits text ≡ true
PieceShape Hash text = IsPiece (Lexeme kind.Label) text
PieceShape Quote text = IsPiece (Lexeme kind.Text) text
PieceShape Punctuation text = IsPiece Comment text ⊎ (SymbolShape Punctuation text × (symbol : Symbol) × (text ≡ symbol_spelling symbol))

word_shape : (text : List ℕ) → IsWord text → PieceShape (class_of (get_or text 0 0)) text
word_shape [] word = absurd word
word_shape (b ∷ bytes) word = rw (class_of-letter b word.0) (inl word)

symbol_shape : (symbol : Symbol) (class : Class) → SymbolShape class (symbol_spelling symbol) → PieceShape class (symbol_spelling symbol)
symbol_shape symbol Letter shape = inr shape
symbol_shape symbol Punctuation shape = inr (shape, symbol, refl)
symbol_shape symbol Blank shape = absurd shape
symbol_shape symbol Digit shape = absurd shape
symbol_shape symbol Hash shape = absurd shape
symbol_shape symbol Quote shape = absurd shape

pub piece_shape : (kind : PieceKind) (text : List ℕ) → IsPiece kind text → PieceShape (class_of (get_or text 0 0)) text
piece_shape White [] is = absurd (omega arith)
piece_shape White (b ∷ bytes) is = rw (class_of-white b is.1.0) is.1
piece_shape Comment text is = rw (is.2) (inl (is.0, is.1, refl))
piece_shape (Lexeme kind.Name) text is = word_shape text is.0
piece_shape (Lexeme (kind.Number n)) [] is = absurd (omega arith)
piece_shape (Lexeme (kind.Number n)) (b ∷ bytes) is =
    rw (class_of-digit b (and_parts (is_ascii_digit b) (all_ascii_digits bytes) is.1).0) is.1
piece_shape (Lexeme kind.Label) text is = rw (is.2) (is.0, is.1, refl)
piece_shape (Lexeme kind.Text) text is = rw (is.2) (is.0, is.1, refl)
piece_shape (Lexeme (kind.Keyword word)) text is = rw is (word_shape _ (keyword_spelling-IsWord word))
piece_shape (Lexeme (kind.Symbol symbol)) text is = rw is (symbol_shape symbol _ (symbol_spelling-SymbolShape symbol))

-- a piece has a byte
pub piece_nonempty : (kind : PieceKind) → IsPiece kind [] → ⊥
piece_nonempty White is = omega arith
piece_nonempty Comment is = cc (is.2)
piece_nonempty (Lexeme kind.Name) is = is.0
piece_nonempty (Lexeme (kind.Number n)) is = omega arith
piece_nonempty (Lexeme kind.Label) is = cc (is.2)
piece_nonempty (Lexeme kind.Text) is = cc (is.2)
piece_nonempty (Lexeme (kind.Keyword word)) is = subst IsWord (sym is) (keyword_spelling-IsWord word)
piece_nonempty (Lexeme (kind.Symbol symbol)) is =
    let shape = subst (λ text. SymbolShape (class_of (get_or text 0 0)) text) (sym is) (symbol_spelling-SymbolShape symbol) in
    omega (arith, shape.0)
