-- Laws of the longest piece at a place.
use Rattle.std.proofs.Common.{◌≡◌, ◌≢◌, ℕ, pos, ◌<◌, ◌≤◌, inl, inr, Bool, true, false, List, [], ◌∷◌, ◌++◌, length, get_or, codes, refl, sym, ◌∙◌, ap, subst, arith, append_assoc, length-append}
use Rattle.std.specs.Char.{is_ascii_digit}
use Rattle.std.specs.Str.{all_ascii_digits}
use Rattle.std.proofs.lemmas.Bool.{and_parts, false≢true}
use Rattle.decimal.specs.Numbers.{digits_number}
use Rattle.lexer.specs.declared.symbol.Symbol.{Symbol}
use Rattle.lexer.specs.declared.symbol.Symbol.TheVariants as symbol
use Rattle.lexer.specs.declared.token.TokenKind.TheVariants as kind
use Rattle.lexer.specs.Spelling.{Every, is_white, is_letter, is_word_byte, is_quotable, is_in_line, symbol_spelling}
use Rattle.lexer.specs.inside.Runs.{EndsRun, Class, Blank, Letter, Digit, Hash, Quote, Punctuation, class_of}
use Rattle.lexer.specs.Tokens.{IsWord, IsName, PieceKind, White, Comment, Lexeme, IsPiece, IsLongest}
use Rattle.lexer.proofs.ShapeLaws.{PieceShape, piece_shape, class_of-white, class_of-letter, class_of-digit}
use Rattle.lexer.proofs.SpellingLaws.{SymbolShape, symbol_spelling-SymbolShape}

-- two runs that end in one text are one
pub run_unique : (test : ℕ → Bool) (a b x y : List ℕ) → Every test a → Every test b → EndsRun test x → EndsRun test y → a ++ x ≡ b ++ y → (a ≡ b) × (x ≡ y)
run_unique test [] [] x y all_a all_b ends_x ends_y same = (refl, same)
run_unique test [] (c ∷ b) [] y all_a all_b ends_x ends_y same = cc
run_unique test [] (c ∷ b) (d ∷ x) y all_a all_b ends_x ends_y same =
    let head : d ≡ c = cc in
    absurd (false≢true (sym ends_x ∙ ap test head ∙ all_b.0))
run_unique test (c ∷ a) [] x [] all_a all_b ends_x ends_y same = cc
run_unique test (c ∷ a) [] x (d ∷ y) all_a all_b ends_x ends_y same =
    let head : c ≡ d = cc in
    absurd (false≢true (sym ends_y ∙ ap test (sym head) ∙ all_a.0))
run_unique test (c ∷ a) (d ∷ b) x y all_a all_b ends_x ends_y same =
    let head : c ≡ d = cc in
    let tail : a ++ x ≡ b ++ y = cc in
    let rest = run_unique test a b x y all_a.1 all_b.1 ends_x ends_y tail in
    (cc (head, rest.0), rest.1)

every_back : (test : ℕ → Bool) (a b : List ℕ) → Every test (a ++ b) → Every test b
every_back test [] b all = all
every_back test (c ∷ a) b all = every_back test a b all.1

-- a run that has ended does not go on
pub run_longest : (test : ℕ → Bool) (a more others rest : List ℕ) → Every test (a ++ more) → EndsRun test rest → rest ≡ more ++ others → more ≡ []
run_longest test a [] others rest all ends same = refl
run_longest test a (b ∷ more) others rest all ends same =
    let fails : test b ≡ false = subst (EndsRun test) same ends in
    absurd (false≢true (sym fails ∙ (every_back test a (b ∷ more) all).0))

-- what is longer and begins with the same byte is of the same shape
longer_shape : (kind : PieceKind) (b : ℕ) (bytes more : List ℕ) (class : Class) → class_of b ≡ class → IsPiece kind (b ∷ bytes ++ more) → PieceShape class (b ∷ bytes ++ more)
longer_shape kind b bytes more class is piece = subst (λ c. PieceShape c (b ∷ bytes ++ more)) is (piece_shape kind (b ∷ bytes ++ more) piece)

-- white bytes, as many as stand there
pub white_longest : (text rest : List ℕ) → 0 < length text → Every is_white text → EndsRun is_white rest → IsLongest (record { kind = White; text = text }) rest
white_longest [] rest some all ends = absurd (omega arith)
white_longest (b ∷ text) rest some all ends = record {
  is = (some, all);
  longest = λ other more others same piece.
      run_longest is_white (b ∷ text) more others rest (longer_shape other b text more Blank (class_of-white b all.0) piece) ends same;
}

-- digits, as many as stand there
every_digit : (text : List ℕ) → all_ascii_digits text ≡ true → Every is_ascii_digit text
every_digit [] digits = tt
every_digit (b ∷ text) digits =
    let parts = and_parts (is_ascii_digit b) (all_ascii_digits text) digits in
    (parts.0, every_digit text parts.1)

pub number_longest : (text rest : List ℕ) → 0 < length text → all_ascii_digits text ≡ true → EndsRun is_ascii_digit rest
    → IsLongest (record { kind = Lexeme (kind.Number (pos (digits_number text))); text = text }) rest
number_longest [] rest some all ends = absurd (omega arith)
number_longest (b ∷ text) rest some all ends = record {
  is = (some, all, refl);
  longest = λ other more others same piece.
      run_longest is_ascii_digit (b ∷ text) more others rest
      (every_digit (b ∷ text ++ more) (longer_shape other b text more Digit (class_of-digit b (every_digit (b ∷ text) all).0) piece)) ends same;
}

nil_of_length : (xs : List ℕ) → length xs ≤ 0 → xs ≡ []
nil_of_length [] none = refl
nil_of_length (x ∷ xs) none = absurd (omega arith)

-- a comment, up to the line feed
comment_alone : (inside more others rest : List ℕ) → EndsRun is_in_line rest → rest ≡ more ++ others → PieceShape Punctuation (47 ∷ 47 ∷ inside ++ more) → more ≡ []
comment_alone inside more others rest ends same (inl comment) =
    let tail : inside ++ more ≡ comment.0 = cc (comment.2) in
    run_longest is_in_line inside more others rest (subst (Every is_in_line) (sym tail) comment.1) ends same
comment_alone inside more others rest ends same (inr symbol) =
    nil_of_length more (omega (arith, symbol.0.1, length-append inside more))

pub comment_longest : (inside rest : List ℕ) → Every is_in_line inside → EndsRun is_in_line rest → IsLongest (record { kind = Comment; text = 47 ∷ 47 ∷ inside }) rest
comment_longest inside rest all ends = record {
  is = (inside, all, refl);
  longest = λ other more others same piece.
      comment_alone inside more others rest ends same (longer_shape other 47 (47 ∷ inside) more Punctuation refl piece);
}

-- a word and the = after it are no symbol
abbrev pub IsNoReduction : List ℕ → List ℕ → Type 0
IsNoReduction word rest = (symbol : Symbol) (others : List ℕ) → rest ≡ 61 ∷ others → symbol_spelling symbol ≢ word ++ 61 ∷ []

letter-word_byte : (b : ℕ) → is_letter b ≡ true → is_word_byte b ≡ true
letter-word_byte b letter = rw letter refl

pub every_word_byte : (text : List ℕ) → IsWord text → Every is_word_byte text
every_word_byte [] word = absurd word
every_word_byte (b ∷ text) word = (letter-word_byte b word.0, word.1)

-- a word that goes on into a symbol is min or max, and = follows it
into_reduction : (symbol : Symbol) (word name more others rest : List ℕ) → Every is_word_byte word → EndsRun is_word_byte rest → Every is_word_byte name → symbol_spelling symbol ≡ name ++ 61 ∷ []
    → rest ≡ more ++ others → word ++ more ≡ name ++ 61 ∷ [] → IsNoReduction word rest → ⊥
into_reduction symbol word name more others rest all ends all_name spelled same longer none =
    let regrouped : word ++ rest ≡ name ++ (61 ∷ others) =
    ap (λ r. word ++ r) same ∙ sym (append_assoc word more others) ∙ ap (λ t. t ++ others) longer ∙ append_assoc name (61 ∷ []) others in
    let cut = run_unique is_word_byte word name rest (61 ∷ others) all all_name ends refl regrouped in
    none symbol others cut.1 (spelled ∙ ap (λ w. w ++ 61 ∷ []) (sym cut.0))

word_alone : (b : ℕ) (text more others rest : List ℕ) → IsWord (b ∷ text) → EndsRun is_word_byte rest → IsNoReduction (b ∷ text) rest → rest ≡ more ++ others → PieceShape Letter (b ∷ text ++ more)
    → more ≡ []
word_alone b text more others rest word ends none same (inl longer) =
    run_longest is_word_byte text more others rest longer.1 ends same
word_alone b text more others rest word ends none same (inr (inl min)) =
    absurd (into_reduction symbol.MinAssign (b ∷ text) (codes "min") more others rest (every_word_byte (b ∷ text) word) ends (refl, (refl, (refl, tt))) refl same min none)
word_alone b text more others rest word ends none same (inr (inr max)) =
    absurd (into_reduction symbol.MaxAssign (b ∷ text) (codes "max") more others rest (every_word_byte (b ∷ text) word) ends (refl, (refl, (refl, tt))) refl same max none)

-- a word, as far as it goes
pub word_longest : (kind : PieceKind) (text rest : List ℕ) → IsWord text → IsPiece kind text → EndsRun is_word_byte rest → IsNoReduction text rest
    → IsLongest (record { kind = kind; text = text }) rest
word_longest kind [] rest word is ends none = absurd word
word_longest kind (b ∷ text) rest word is ends none = record {
  is = is;
  longest = λ other more others same piece.
      word_alone b text more others rest word ends none same (longer_shape other b text more Letter (class_of-letter b word.0) piece);
}

-- min= and max=
reduction_length : (text : List ℕ) → SymbolShape Letter text → length text ≡ 4
reduction_length text (inl min) = ap length min
reduction_length text (inr max) = ap length max

no_word : (text more : List ℕ) → IsWord ((text ++ 61 ∷ []) ++ more) → ⊥
no_word text more word =
    let all : Every is_word_byte (text ++ (61 ∷ [] ++ more)) =
    subst (Every is_word_byte) (append_assoc text (61 ∷ []) more) (every_word_byte _ word) in
    false≢true (every_back is_word_byte text (61 ∷ more) all).0

reduction_alone : (text more : List ℕ) → length (text ++ 61 ∷ []) ≡ 4 → PieceShape Letter ((text ++ 61 ∷ []) ++ more) → more ≡ []
reduction_alone text more four (inl word) = absurd (no_word text more word)
reduction_alone text more four (inr longer) =
    nil_of_length more (omega (arith, reduction_length _ longer, length-append (text ++ 61 ∷ []) more))

pub reduction_longest : (symbol : Symbol) (text rest : List ℕ) → IsWord text → symbol_spelling symbol ≡ text ++ 61 ∷ []
    → IsLongest (record { kind = Lexeme (kind.Symbol symbol); text = text ++ 61 ∷ [] }) rest
reduction_longest symbol [] rest word spelled = absurd word
reduction_longest symbol (b ∷ text) rest word spelled =
    let letter : class_of b ≡ Letter = class_of-letter b word.0 in
    let shape : SymbolShape Letter (b ∷ text ++ 61 ∷ []) =
    subst (λ c. SymbolShape c (b ∷ text ++ 61 ∷ [])) letter
    (subst (λ t. SymbolShape (class_of (get_or t 0 0)) t) spelled (symbol_spelling-SymbolShape symbol)) in
    record {
      is = sym spelled;
      longest = λ other more others same piece.
          reduction_alone (b ∷ text) more (reduction_length _ shape) (longer_shape other b (text ++ 61 ∷ []) more Letter letter piece);
    }

-- a label, up to its second #
pub label_longest : (name rest : List ℕ) → IsName name → IsLongest (record { kind = Lexeme kind.Label; text = 35 ∷ name ++ 35 ∷ [] }) rest
label_longest name rest is_name = record {
  is = (name, is_name, refl);
  longest = λ other more others same piece.
      let label : IsPiece (Lexeme kind.Label) (35 ∷ (name ++ 35 ∷ []) ++ more) = longer_shape other 35 (name ++ 35 ∷ []) more Hash refl piece in
      let tails : name ++ (35 ∷ more) ≡ label.0 ++ 35 ∷ [] = sym (append_assoc name (35 ∷ []) more) ∙ cc (label.2) in
      let cut = run_unique is_word_byte name label.0 (35 ∷ more) (35 ∷ []) (every_word_byte name is_name.0) (every_word_byte label.0 label.1.0) refl refl tails in
      cc (cut.1);
}

-- a text in quotes, up to its second quote
pub text_longest : (inside rest : List ℕ) → Every is_quotable inside → IsLongest (record { kind = Lexeme kind.Text; text = 34 ∷ inside ++ 34 ∷ [] }) rest
text_longest inside rest all = record {
  is = (inside, all, refl);
  longest = λ other more others same piece.
      let quoted : IsPiece (Lexeme kind.Text) (34 ∷ (inside ++ 34 ∷ []) ++ more) = longer_shape other 34 (inside ++ 34 ∷ []) more Quote refl piece in
      let tails : inside ++ (34 ∷ more) ≡ quoted.0 ++ 34 ∷ [] = sym (append_assoc inside (34 ∷ []) more) ∙ cc (quoted.2) in
      let cut = run_unique is_quotable inside quoted.0 (34 ∷ more) (34 ∷ []) all quoted.1 refl refl tails in
      cc (cut.1);
}

-- symbols of two bytes and of one
pair_alone : (a b : ℕ) (more : List ℕ) → (a ≡ 47 → b ≡ 47 → ⊥) → PieceShape Punctuation (a ∷ b ∷ more) → more ≡ []
pair_alone a b more no_comment (inl comment) = absurd (no_comment (cc (comment.2)) (cc (comment.2)))
pair_alone a b more no_comment (inr symbol) = nil_of_length more (omega (arith, symbol.0.1))

pub pair_longest : (symbol : Symbol) (a b : ℕ) (rest : List ℕ) → class_of a ≡ Punctuation → symbol_spelling symbol ≡ a ∷ b ∷ [] → (a ≡ 47 → b ≡ 47 → ⊥)
    → IsLongest (record { kind = Lexeme (kind.Symbol symbol); text = a ∷ b ∷ [] }) rest
pair_longest symbol a b rest mark spelled no_comment = record {
  is = sym spelled;
  longest = λ other more others same piece.
      pair_alone a b more no_comment (longer_shape other a (b ∷ []) more Punctuation mark piece);
}

-- no piece of two bytes begins so
abbrev pub IsNoPair : ℕ → List ℕ → Type 0
IsNoPair a rest = (b : ℕ) (others : List ℕ) → rest ≡ b ∷ others → ((symbol : Symbol) → symbol_spelling symbol ≢ a ∷ b ∷ []) × (a ≡ 47 → b ≡ 47 → ⊥)

single_alone : (a : ℕ) (more others rest : List ℕ) → IsNoPair a rest → rest ≡ more ++ others → PieceShape Punctuation (a ∷ more) → more ≡ []
single_alone a [] others rest none same shape = refl
single_alone a (b ∷ more) others rest none same (inl comment) =
    absurd ((none b (more ++ others) same).1 (cc (comment.2)) (cc (comment.2)))
single_alone a (b ∷ more) others rest none same (inr (bound, symbol, is)) =
    let two : more ≡ [] = nil_of_length more (omega (arith, bound.1)) in
    absurd ((none b (more ++ others) same).0 symbol (sym is ∙ ap (λ m. a ∷ b ∷ m) two))

pub single_longest : (symbol : Symbol) (a : ℕ) (rest : List ℕ) → class_of a ≡ Punctuation → symbol_spelling symbol ≡ a ∷ [] → IsNoPair a rest
    → IsLongest (record { kind = Lexeme (kind.Symbol symbol); text = a ∷ [] }) rest
single_longest symbol a rest mark spelled none = record {
  is = sym spelled;
  longest = λ other more others same piece.
      single_alone a more others rest none same (longer_shape other a [] more Punctuation mark piece);
}
