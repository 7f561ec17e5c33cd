-- A text is a piece of one kind.
use Rattle.std.proofs.Common.{◌≡◌, ℕ, inl, inr, List, [], ◌∷◌, get_or, refl, sym, ◌∙◌, ap, subst, arith}
use Rattle.std.proofs.lemmas.Bool.{and_parts, false≢true}
use Rattle.std.specs.Char.{is_ascii_digit}
use Rattle.std.specs.Str.{all_ascii_digits}
use Rattle.lexer.specs.declared.symbol.Symbol.{Symbol}
use Rattle.lexer.specs.declared.symbol.Symbol.TheVariants as symbol
use Rattle.lexer.specs.declared.token.TokenKind.TheVariants as kind
use Rattle.lexer.specs.inside.Runs.{Class, Blank, Letter, Digit, Hash, Quote, Punctuation, class_of}
use Rattle.lexer.specs.Spelling.{symbol_spelling}
use Rattle.lexer.specs.Tokens.{IsWord, PieceKind, White, Comment, Lexeme, IsPiece}
use Rattle.lexer.proofs.ShapeLaws.{class_of-white, class_of-letter, class_of-digit}
use Rattle.lexer.proofs.SpellingLaws.{keyword_spelling-IsWord, keyword_spelling-injective, symbol_spelling-injective, SymbolShape, symbol_spelling-SymbolShape}

-- the class of the first byte of a piece of this kind
abbrev kind_class : PieceKind → Class
kind_class White = Blank
kind_class Comment = Punctuation
kind_class (Lexeme kind.Name) = Letter
kind_class (Lexeme (kind.Number n)) = Digit
kind_class (Lexeme kind.Label) = Hash
kind_class (Lexeme kind.Text) = Quote
kind_class (Lexeme (kind.Keyword word)) = Letter
kind_class (Lexeme (kind.Symbol symbol)) = class_of (get_or (symbol_spelling symbol) 0 0)

word_class : (text : List ℕ) → IsWord text → class_of (get_or text 0 0) ≡ Letter
word_class [] word = absurd word
word_class (b ∷ bytes) word = class_of-letter b word.0

piece_class : (kind : PieceKind) (text : List ℕ) → IsPiece kind text → class_of (get_or text 0 0) ≡ kind_class kind
piece_class White [] is = absurd (omega arith)
piece_class White (b ∷ bytes) is = class_of-white b is.1.0
piece_class Comment text is = ap (λ t. class_of (get_or t 0 0)) (is.2)
piece_class (Lexeme kind.Name) text is = word_class text is.0
piece_class (Lexeme (kind.Number n)) [] is = absurd (omega arith)
piece_class (Lexeme (kind.Number n)) (b ∷ bytes) is =
    class_of-digit b (and_parts (is_ascii_digit b) (all_ascii_digits bytes) is.1).0
piece_class (Lexeme kind.Label) text is = ap (λ t. class_of (get_or t 0 0)) (is.2)
piece_class (Lexeme kind.Text) text is = ap (λ t. class_of (get_or t 0 0)) (is.2)
piece_class (Lexeme (kind.Keyword word)) text is = word_class text (subst IsWord (sym is) (keyword_spelling-IsWord word))
piece_class (Lexeme (kind.Symbol symbol)) text is = ap (λ t. class_of (get_or t 0 0)) is

-- a symbol that begins with a byte of this class
symbol_begins : (symbol : Symbol) (text : List ℕ) (class : Class) → text ≡ symbol_spelling symbol → class_of (get_or text 0 0) ≡ class → SymbolShape class (symbol_spelling symbol)
symbol_begins symbol text class is begins =
    subst (λ c. SymbolShape c (symbol_spelling symbol)) (sym (ap (λ t. class_of (get_or t 0 0)) is) ∙ begins) (symbol_spelling-SymbolShape symbol)

-- a symbol is neither a word nor a comment
symbol_no_word : (symbol : Symbol) (text : List ℕ) → text ≡ symbol_spelling symbol → IsWord text → ⊥
symbol_no_word symbol text is word =
    elim (symbol_begins symbol text Letter is (word_class text word)) [
      | inl min ↦ let min_word = subst IsWord (is ∙ min) word in false≢true (min_word.1.1.1.0)
      | inr max ↦ let max_word = subst IsWord (is ∙ max) word in false≢true (max_word.1.1.1.0)
    ]

no_second_slash : (s : Symbol) → get_or (symbol_spelling s) 1 0 ≡ 47 → ⊥
no_second_slash symbol.Slash same = omega arith
no_second_slash _ same = omega arith

symbol_no_comment : (symbol : Symbol) (text : List ℕ) → text ≡ symbol_spelling symbol → IsPiece Comment text → ⊥
symbol_no_comment symbol text is comment = no_second_slash symbol (ap (λ t. get_or t 1 0) (sym is ∙ comment.2))

-- no text is a piece of two kinds
pub kind_unique : (k j : PieceKind) (text : List ℕ) → IsPiece k text → IsPiece j text → k ≡ j
kind_unique White White text a b = refl
kind_unique White (Lexeme (kind.Symbol symbol)) text a b = absurd (symbol_begins symbol text Blank b (piece_class White text a))
kind_unique White other text a b = cc (piece_class White text a, piece_class other text b)
kind_unique Comment Comment text a b = refl
kind_unique Comment (Lexeme (kind.Symbol symbol)) text a b = absurd (symbol_no_comment symbol text b a)
kind_unique Comment other text a b = cc (piece_class Comment text a, piece_class other text b)
kind_unique (Lexeme kind.Name) (Lexeme kind.Name) text a b = refl
kind_unique (Lexeme kind.Name) (Lexeme (kind.Keyword word)) text a b = absurd (a.1 word b)
kind_unique (Lexeme kind.Name) (Lexeme (kind.Symbol symbol)) text a b = absurd (symbol_no_word symbol text b a.0)
kind_unique (Lexeme kind.Name) other text a b = cc (piece_class (Lexeme kind.Name) text a, piece_class other text b)
kind_unique (Lexeme (kind.Number n)) (Lexeme (kind.Number m)) text a b = ap (λ x. Lexeme (kind.Number x)) (a.2 ∙ sym (b.2))
kind_unique (Lexeme (kind.Number n)) (Lexeme (kind.Symbol symbol)) text a b = absurd (symbol_begins symbol text Digit b (piece_class (Lexeme (kind.Number n)) text a))
kind_unique (Lexeme (kind.Number n)) other text a b = cc (piece_class (Lexeme (kind.Number n)) text a, piece_class other text b)
kind_unique (Lexeme kind.Label) (Lexeme kind.Label) text a b = refl
kind_unique (Lexeme kind.Label) (Lexeme (kind.Symbol symbol)) text a b = absurd (symbol_begins symbol text Hash b (piece_class (Lexeme kind.Label) text a))
kind_unique (Lexeme kind.Label) other text a b = cc (piece_class (Lexeme kind.Label) text a, piece_class other text b)
kind_unique (Lexeme kind.Text) (Lexeme kind.Text) text a b = refl
kind_unique (Lexeme kind.Text) (Lexeme (kind.Symbol symbol)) text a b = absurd (symbol_begins symbol text Quote b (piece_class (Lexeme kind.Text) text a))
kind_unique (Lexeme kind.Text) other text a b = cc (piece_class (Lexeme kind.Text) text a, piece_class other text b)
kind_unique (Lexeme (kind.Keyword word)) (Lexeme (kind.Keyword other)) text a b = ap (λ w. Lexeme (kind.Keyword w)) (keyword_spelling-injective word other (sym a ∙ b))
kind_unique (Lexeme (kind.Keyword word)) (Lexeme kind.Name) text a b = absurd (b.1 word a)
kind_unique (Lexeme (kind.Keyword word)) (Lexeme (kind.Symbol symbol)) text a b = absurd (symbol_no_word symbol text b (subst IsWord (sym a) (keyword_spelling-IsWord word)))
kind_unique (Lexeme (kind.Keyword word)) other text a b = cc (piece_class (Lexeme (kind.Keyword word)) text a, piece_class other text b)
kind_unique (Lexeme (kind.Symbol symbol)) (Lexeme (kind.Symbol other)) text a b = ap (λ s. Lexeme (kind.Symbol s)) (symbol_spelling-injective symbol other (sym a ∙ b))
kind_unique (Lexeme (kind.Symbol symbol)) White text a b = absurd (symbol_begins symbol text Blank a (piece_class White text b))
kind_unique (Lexeme (kind.Symbol symbol)) Comment text a b = absurd (symbol_no_comment symbol text a b)
kind_unique (Lexeme (kind.Symbol symbol)) (Lexeme kind.Name) text a b = absurd (symbol_no_word symbol text a b.0)
kind_unique (Lexeme (kind.Symbol symbol)) (Lexeme (kind.Number n)) text a b = absurd (symbol_begins symbol text Digit a (piece_class (Lexeme (kind.Number n)) text b))
kind_unique (Lexeme (kind.Symbol symbol)) (Lexeme kind.Label) text a b = absurd (symbol_begins symbol text Hash a (piece_class (Lexeme kind.Label) text b))
kind_unique (Lexeme (kind.Symbol symbol)) (Lexeme kind.Text) text a b = absurd (symbol_begins symbol text Quote a (piece_class (Lexeme kind.Text) text b))
kind_unique (Lexeme (kind.Symbol symbol)) (Lexeme (kind.Keyword word)) text a b = absurd (symbol_no_word symbol text a (subst IsWord (sym b) (keyword_spelling-IsWord word)))
