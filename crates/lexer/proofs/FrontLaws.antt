-- Laws of what stands at the front of bytes: the first piece of a given length, and faults.
use Rattle.std.proofs.Common.{◌≡◌, ◌≢◌, ℕ, pos, ◌+◌, ◌<◌, ◌≤◌, inl, inr, true, false, List, [], ◌∷◌, ◌++◌, length, take, drop, get_or, zero, suc, refl, sym, ◌∙◌, ap, subst, arith, append_assoc}
use Rattle.std.proofs.Common.{length-append}
use Rattle.std.specs.Char.{is_ascii_digit}
use Rattle.std.specs.Str.{all_ascii_digits}
use Rattle.std.proofs.lemmas.Bool.{cases_lt, false≢true}
use Rattle.std.proofs.Math.Seq.{take-append_seam, drop-append_seam}
use Rattle.std.proofs.lemmas.List.{take-append-drop, length-take}
use Rattle.decimal.specs.Numbers.{digits_number}
use Rattle.decimal.proofs.NumberLaws.{value_of-longer, all_ascii_digits-append}
use Rattle.lexer.specs.declared.symbol.Symbol.{Symbol}
use Rattle.lexer.specs.declared.token.TokenKind.TheVariants as kind
use Rattle.lexer.specs.Spelling.{Every, is_white, is_letter, is_word_byte, is_quotable, is_in_line, symbol_spelling}
use Rattle.lexer.specs.inside.Runs.{EndsRun, IsRun, Quote, Punctuation, class_of, IsFirst}
use Rattle.lexer.specs.Tokens.{IsWord, IsName, PieceKind, White, Comment, Lexeme, IsPiece, IsLongest, IsSmall, BeginsBadByte, BeginsUnfinishedText, BeginsLargeNumber}
use Rattle.lexer.proofs.RunLaws.{ends_at, ends_whole}
use Rattle.lexer.proofs.ShapeLaws.{PieceShape, piece_shape, piece_nonempty}
use Rattle.lexer.proofs.LongestLaws.{run_unique, every_word_byte, white_longest, number_longest, comment_longest, word_longest, reduction_longest, label_longest, text_longest, IsNoReduction, IsNoPair}

-- the longest piece of these bytes is the first of so many
pub first_of : (kind : PieceKind) (bytes text rest : List ℕ) (len : ℕ) → bytes ≡ text ++ rest → len ≡ length text → 0 < len → IsLongest (record { kind = kind; text = text }) rest → IsSmall kind
    → IsFirst kind bytes len
first_of kind bytes text rest len whole is some longest small =
    let front : take len bytes ≡ text = ap (λ n. take n bytes) is ∙ ap (take (length text)) whole ∙ take-append_seam text rest in
    let back : drop len bytes ≡ rest = ap (λ n. drop n bytes) is ∙ ap (drop (length text)) whole ∙ drop-append_seam text rest in
    record {
      some = some;
      within = omega (arith, ap length whole, length-append text rest);
      longest = subst (λ r. IsLongest (record { kind = kind; text = take len bytes }) r) (sym back)
          (subst (λ t. IsLongest (record { kind = kind; text = t }) rest) (sym front) longest);
      small = small;
    }

-- what stands at the front where the first byte is of this class
front_shape : (kind : PieceKind) (b : ℕ) (bytes front rest : List ℕ) → b ∷ bytes ≡ front ++ rest → IsPiece kind front → PieceShape (class_of b) front
front_shape kind b bytes [] rest same piece = absurd (piece_nonempty kind piece)
front_shape kind b bytes (c ∷ front) rest same piece =
    let head : c ≡ b = cc in
    subst (λ d. PieceShape (class_of d) (c ∷ front)) head (piece_shape kind (c ∷ front) piece)

-- a # with no name and # after it
pub label_fault : (inside name rest : List ℕ) → inside ≡ name ++ rest → Every is_word_byte name → EndsRun is_word_byte rest → ((others : List ℕ) → rest ≡ 35 ∷ others → IsName name → ⊥)
    → BeginsBadByte (35 ∷ inside)
label_fault inside name rest whole all ends none = (
  λ same. absurd (omega arith),
  λ other front others same piece.
      let label : IsPiece (Lexeme kind.Label) front = front_shape other 35 inside front others same piece in
      let regrouped : inside ≡ label.0 ++ (35 ∷ others) = cc (same, ap (λ f. f ++ others) (label.2), append_assoc label.0 (35 ∷ []) others) in
      let cut = run_unique is_word_byte name label.0 rest (35 ∷ others) all (every_word_byte label.0 label.1.0) ends refl (sym whole ∙ regrouped) in
      none others cut.1 (subst IsName (sym cut.0) label.1),
)

-- a quote with no other after it
pub quote_fault : (inside front rest : List ℕ) → inside ≡ front ++ rest → Every is_quotable front → EndsRun is_quotable rest → ((others : List ℕ) → rest ≢ 34 ∷ others)
    → BeginsUnfinishedText (34 ∷ inside)
quote_fault inside front rest whole all ends none = (
  refl,
  λ other text others same piece.
      let quoted : IsPiece (Lexeme kind.Text) text = front_shape other 34 inside text others same piece in
      let regrouped : inside ≡ quoted.0 ++ (34 ∷ others) = cc (same, ap (λ f. f ++ others) (quoted.2), append_assoc quoted.0 (34 ∷ []) others) in
      let cut = run_unique is_quotable front quoted.0 rest (34 ∷ others) all quoted.1 ends refl (sym whole ∙ regrouped) in
      none others cut.1,
)

-- a byte that is no symbol, alone or with the next, and begins no comment
no_mark : (a : ℕ) (bytes front rest : List ℕ) → ((symbol : Symbol) → symbol_spelling symbol ≢ a ∷ []) → IsNoPair a bytes → a ∷ bytes ≡ front ++ rest → PieceShape Punctuation front → ⊥
no_mark a bytes front rest no_single no_pair same (inl (inside, all, is)) =
    let whole : a ∷ bytes ≡ 47 ∷ 47 ∷ inside ++ rest = same ∙ ap (λ f. f ++ rest) is in
    (no_pair 47 (inside ++ rest) (cc (whole))).1 (cc (whole)) refl
no_mark a bytes [] rest no_single no_pair same (inr (bound, symbol, is)) = omega (arith, bound.0)
no_mark a bytes (b ∷ []) rest no_single no_pair same (inr (bound, symbol, is)) =
    let head : b ≡ a = cc in
    no_single symbol (sym is ∙ ap (λ d. d ∷ []) head)
no_mark a bytes (b ∷ c ∷ []) rest no_single no_pair same (inr (bound, symbol, is)) =
    let head : b ≡ a = cc in
    (no_pair c rest (cc (same))).0 symbol (sym is ∙ ap (λ d. d ∷ c ∷ []) head)
no_mark a bytes (b ∷ c ∷ d ∷ front) rest no_single no_pair same (inr (bound, symbol, is)) = omega (arith, bound.1)

mark_not_quote : (a : ℕ) → class_of a ≡ Punctuation → a ≢ 34
mark_not_quote a mark same =
    let quote : Quote ≡ Punctuation = ap class_of (sym same) ∙ mark in
    cc

pub mark_fault : (a : ℕ) (bytes : List ℕ) → class_of a ≡ Punctuation → ((symbol : Symbol) → symbol_spelling symbol ≢ a ∷ []) → IsNoPair a bytes → BeginsBadByte (a ∷ bytes)
mark_fault a bytes mark no_single no_pair = (
  mark_not_quote a mark,
  λ other front others same piece.
      no_mark a bytes front others no_single no_pair same
      (subst (λ c. PieceShape c front) mark (front_shape other a bytes front others same piece)),
)

-- digits for too large a number, of which there may be more
digits_end : (bytes : List ℕ) → (digits : List ℕ) × (rest : List ℕ) × (bytes ≡ digits ++ rest) × (all_ascii_digits digits ≡ true) × EndsRun is_ascii_digit rest
digits_end [] = ([], [], refl, refl, tt)
digits_end (b ∷ bytes) =
    let behind = digits_end bytes in
    elim (is_ascii_digit b) as (λ t. is_ascii_digit b ≡ t → (digits : List ℕ) × (rest : List ℕ) × (b ∷ bytes ≡ digits ++ rest) × (all_ascii_digits digits ≡ true) × EndsRun is_ascii_digit rest) [
      | true ↦ λ digit. (b ∷ behind.0, behind.1, ap (λ r. b ∷ r) (behind.2), rw digit (behind.3), behind.4)
      | false ↦ λ other. ([], b ∷ bytes, refl, refl, other)
    ] refl

pub large_number : (bytes digits rest : List ℕ) → bytes ≡ digits ++ rest → all_ascii_digits digits ≡ true → EndsRun is_ascii_digit rest → 9223372036854775807 < digits_number digits
    → BeginsLargeNumber bytes
large_number bytes [] rest whole all ends large = absurd (omega arith)
large_number bytes (d ∷ digits) rest whole all ends large =
    (d ∷ digits, rest, whole, number_longest (d ∷ digits) rest (omega arith) all ends, large)

pub large_prefix : (bytes : List ℕ) (len : ℕ) → all_ascii_digits (take len bytes) ≡ true → 9223372036854775807 < digits_number (take len bytes) → BeginsLargeNumber bytes
large_prefix bytes len digits large =
    let behind = digits_end (drop len bytes) in
    let whole : bytes ≡ (take len bytes ++ behind.0) ++ behind.1 =
    sym (take-append-drop len bytes) ∙ ap (λ r. take len bytes ++ r) (behind.2) ∙ sym (append_assoc (take len bytes) behind.0 behind.1) in
    large_number bytes (take len bytes ++ behind.0) behind.1 whole
    (all_ascii_digits-append (take len bytes) behind.0 ∙ grind (arith, behind.3)) behind.4
    (value_of-longer 9223372036854775808 (take len bytes) behind.0 large)

-- bytes that are cut in two
cut_whole : (len : ℕ) (bytes front rest : List ℕ) → front ≡ take len bytes → rest ≡ drop len bytes → bytes ≡ front ++ rest
cut_whole len bytes front rest is_front is_rest =
    sym (take-append-drop len bytes) ∙ ap (λ f. f ++ drop len bytes) (sym is_front) ∙ ap (λ r. front ++ r) (sym is_rest)

cut_length : (len : ℕ) (bytes front : List ℕ) → len ≤ length bytes → front ≡ take len bytes → len ≡ length front
cut_length len bytes front within is_front = omega (arith, ap length is_front, length-take {A = ℕ})

-- the first piece is white bytes
pub white_first : (bytes : List ℕ) (len : ℕ) → 0 < length bytes → is_white (get_or bytes 0 0) ≡ true → IsRun is_white bytes len → IsFirst White bytes len
white_first [] len some white run = absurd (omega arith)
white_first (b ∷ bytes) zero some white run = absurd (false≢true (sym (run.2) ∙ white))
white_first (b ∷ bytes) (suc len) some white run =
    first_of White (b ∷ bytes) (take (suc len) (b ∷ bytes)) (drop (suc len) (b ∷ bytes)) (suc len)
    (sym (take-append-drop (suc len) (b ∷ bytes))) (cut_length (suc len) (b ∷ bytes) _ run.0 refl) (omega arith)
    (white_longest (take (suc len) (b ∷ bytes)) (drop (suc len) (b ∷ bytes)) (omega arith) run.1 run.2) tt

-- the first piece is a comment
comment_run : (others : List ℕ) (len : ℕ) → IsRun is_in_line (47 ∷ 47 ∷ others) len → IsFirst Comment (47 ∷ 47 ∷ others) len
comment_run others zero run = absurd (false≢true (sym (run.2)))
comment_run others (suc zero) run = absurd (false≢true (sym (run.2)))
comment_run others (suc (suc len)) run =
    first_of Comment (47 ∷ 47 ∷ others) (47 ∷ 47 ∷ take len others) (drop len others) (suc (suc len))
    (ap (λ t. 47 ∷ 47 ∷ t) (sym (take-append-drop len others))) (cut_length (suc (suc len)) (47 ∷ 47 ∷ others) _ run.0 refl) (omega arith)
    (comment_longest (take len others) (drop len others) run.1.1.1 run.2) tt

pub comment_first : (bytes others : List ℕ) (len : ℕ) → bytes ≡ 47 ∷ 47 ∷ others → IsRun is_in_line bytes len → IsFirst Comment bytes len
comment_first bytes others len begins run =
    subst (λ b. IsFirst Comment b len) (sym begins) (comment_run others len (subst (λ b. IsRun is_in_line b len) begins run))

-- a word begins with its letter
pub word_at : (bytes text : List ℕ) (len : ℕ) → 0 < length bytes → is_letter (get_or bytes 0 0) ≡ true → IsRun is_word_byte bytes len → text ≡ take len bytes → IsWord text
word_at [] text len some letter run is = absurd (omega arith)
word_at (b ∷ bytes) text zero some letter run is = absurd (false≢true (sym (run.2) ∙ rw letter refl))
word_at (b ∷ bytes) text (suc len) some letter run is = subst IsWord (sym is) (letter, run.1.1)

word_some : (text : List ℕ) → IsWord text → 0 < length text
word_some [] word = absurd word
word_some (b ∷ text) word = omega arith

-- the first piece is a word
pub word_first : (kind : PieceKind) (bytes text rest : List ℕ) (len : ℕ) → IsRun is_word_byte bytes len → text ≡ take len bytes → rest ≡ drop len bytes → IsWord text → IsPiece kind text
    → IsNoReduction text rest → IsSmall kind → IsFirst kind bytes len
word_first kind bytes text rest len run front back word is none small =
    let long : len ≡ length text = cut_length len bytes text run.0 front in
    first_of kind bytes text rest len (cut_whole len bytes text rest front back) long (omega (arith, word_some text word))
    (word_longest kind text rest word is (subst (EndsRun is_word_byte) (sym back) run.2) none) small

-- the first piece is min= or max=
pub reduction_first : (symbol : Symbol) (bytes text rest others : List ℕ) (len : ℕ) → len ≤ length bytes → text ≡ take len bytes → rest ≡ drop len bytes → IsWord text
    → symbol_spelling symbol ≡ text ++ 61 ∷ [] → rest ≡ 61 ∷ others → IsFirst (Lexeme (kind.Symbol symbol)) bytes (len + 1)
reduction_first symbol bytes text rest others len within front back word spelled begins =
    let long : len ≡ length text = cut_length len bytes text within front in
    let whole : bytes ≡ (text ++ 61 ∷ []) ++ others =
    cut_whole len bytes text rest front back ∙ ap (λ r. text ++ r) begins ∙ sym (append_assoc text (61 ∷ []) others) in
    first_of (Lexeme (kind.Symbol symbol)) bytes (text ++ 61 ∷ []) others (len + 1) whole (omega (arith, length-append text (61 ∷ [])))
    (omega arith) (reduction_longest symbol text others word spelled) tt

-- the first piece is a label, or a text in quotes
enclosed_whole : (mark : ℕ) (inside front rest others : List ℕ) (len : ℕ) → front ≡ take len inside → rest ≡ drop len inside → rest ≡ mark ∷ others
    → mark ∷ inside ≡ (mark ∷ front ++ mark ∷ []) ++ others
enclosed_whole mark inside front rest others len is_front is_rest begins =
    ap (λ t. mark ∷ t) (cut_whole len inside front rest is_front is_rest ∙ ap (λ r. front ++ r) begins ∙ sym (append_assoc front (mark ∷ []) others))

enclosed_length : (mark : ℕ) (inside front : List ℕ) (len : ℕ) → len ≤ length inside → front ≡ take len inside → len + 2 ≡ length (mark ∷ front ++ mark ∷ [])
enclosed_length mark inside front len within is_front =
    omega (arith, cut_length len inside front within is_front, length-append front (mark ∷ []))

pub label_first : (inside name rest others : List ℕ) (len : ℕ) → len ≤ length inside → name ≡ take len inside → rest ≡ drop len inside → rest ≡ 35 ∷ others → IsName name
    → IsFirst (Lexeme kind.Label) (35 ∷ inside) (len + 2)
label_first inside name rest others len within front back begins is_name =
    first_of (Lexeme kind.Label) (35 ∷ inside) (35 ∷ name ++ 35 ∷ []) others (len + 2) (enclosed_whole 35 inside name rest others len front back begins)
    (enclosed_length 35 inside name len within front) (omega arith) (label_longest name others is_name) tt

pub text_first : (inside text rest others : List ℕ) (len : ℕ) → len ≤ length inside → text ≡ take len inside → rest ≡ drop len inside → rest ≡ 34 ∷ others → Every is_quotable (take len inside)
    → IsFirst (Lexeme kind.Text) (34 ∷ inside) (len + 2)
text_first inside text rest others len within front back begins all =
    first_of (Lexeme kind.Text) (34 ∷ inside) (34 ∷ text ++ 34 ∷ []) others (len + 2) (enclosed_whole 34 inside text rest others len front back begins)
    (enclosed_length 34 inside text len within front) (omega arith) (text_longest text others (subst (Every is_quotable) (sym front) all)) tt

-- neither a label nor a text in quotes
pub no_label : (inside name rest : List ℕ) (len : ℕ) → IsRun is_word_byte inside len → name ≡ take len inside → rest ≡ drop len inside → ((others : List ℕ) → rest ≡ 35 ∷ others → IsName name → ⊥)
    → BeginsBadByte (35 ∷ inside)
no_label inside name rest len run front back none =
    label_fault inside name rest (cut_whole len inside name rest front back)
    (subst (Every is_word_byte) (sym front) run.1) (subst (EndsRun is_word_byte) (sym back) run.2) none

pub no_text : (inside rest : List ℕ) (len : ℕ) → IsRun is_quotable inside len → rest ≡ drop len inside → ((others : List ℕ) → rest ≢ 34 ∷ others) → BeginsUnfinishedText (34 ∷ inside)
no_text inside rest len run back none =
    quote_fault inside (take len inside) rest (cut_whole len inside _ rest refl back)
    run.1 (subst (EndsRun is_quotable) (sym back) run.2) none

-- the digits at the front, up to another byte
digits_ends : (bytes : List ℕ) (len : ℕ) → len ≤ length bytes → (len < length bytes → is_ascii_digit (get_or bytes len 0) ≡ false) → EndsRun is_ascii_digit (drop len bytes)
digits_ends bytes len within ends =
    elim (cases_lt len (length bytes)) [
      | inl below ↦ ends_at is_ascii_digit bytes len below (ends below)
      | inr past ↦ subst (λ n. EndsRun is_ascii_digit (drop n bytes)) (omega arith) (ends_whole is_ascii_digit bytes)
    ]

digits_some : (bytes : List ℕ) (len : ℕ) → 0 < length bytes → is_ascii_digit (get_or bytes 0 0) ≡ true → (len < length bytes → is_ascii_digit (get_or bytes len 0) ≡ false) → 0 < len
digits_some bytes zero some digit ends = absurd (false≢true (sym (ends some) ∙ digit))
digits_some bytes (suc len) some digit ends = omega arith

-- the first piece is a number, as far as its size allows
pub number_first : (bytes : List ℕ) (len : ℕ) → 0 < length bytes → is_ascii_digit (get_or bytes 0 0) ≡ true → len ≤ length bytes → all_ascii_digits (take len bytes) ≡ true
    → (len < length bytes → is_ascii_digit (get_or bytes len 0) ≡ false) → IsSmall (Lexeme (kind.Number (pos (digits_number (take len bytes)))))
    → IsFirst (Lexeme (kind.Number (pos (digits_number (take len bytes))))) bytes len
number_first bytes len some digit within digits ends small =
    let long : len ≡ length (take len bytes) = cut_length len bytes _ within refl in
    let any : 0 < len = digits_some bytes len some digit ends in
    first_of (Lexeme (kind.Number (pos (digits_number (take len bytes))))) bytes (take len bytes) (drop len bytes) len (sym (take-append-drop len bytes)) long any
    (number_longest (take len bytes) (drop len bytes) (omega arith) digits (digits_ends bytes len within ends)) small

-- two slashes, the second right after the first
pub comment_begins : (bytes rest others : List ℕ) → 0 < length bytes → get_or bytes 0 0 ≡ 47 → rest ≡ drop 1 bytes → rest ≡ 47 ∷ others → bytes ≡ 47 ∷ 47 ∷ others
comment_begins [] rest others some slash back begins = absurd (omega arith)
comment_begins (b ∷ bytes) rest others some slash back begins = cc
