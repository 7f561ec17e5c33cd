-- Laws of the words that are left of a line, and of the number that the first of them is.
use Rattle.std.proofs.Common.{◌≡◌, ◌≢◌, ℕ, ◌+◌, ◌^◌, ◌<◌, ◌≤◌, ◌&&◌, Bool, true, false, not, List, [], ◌∷◌, ◌++◌, Option, Some, None, IsTrue, ◌↔◌, length, take, drop, get_or, refl, sym, ◌∙◌, ap}
use Rattle.std.proofs.Common.{arith, rules}
use Rattle.std.specs.Borrow.{Bor}
use Rattle.std.specs.Char.{is_ascii_digit}
use Rattle.std.specs.List.{onto_first}
use Rattle.std.specs.Option.{is_some, option_map}
use Rattle.std.specs.Str.{all_ascii_digits}
use Rattle.std.proofs.lemmas.Bool.{false≢true}
use Rattle.std.proofs.lemmas.List.{length-take, take-append-drop, drop_more}
use Rattle.decimal.specs.Numbers.{digits_number}
use Rattle.scripts.specs.Commands.{HasNone, pieces, words_of}
use Rattle.decimal.specs.Digits.{AreLeadingDigits}
use Rattle.scripts.specs.inside.Parsing.{words_left, first_number}
use Rattle.decimal.proofs.NumberLaws.{number_of-digits, number_of-large, number_of-other, value_of-longer}
use Rattle.scripts.proofs.PieceLaws.{pieces-AreParts, pieces_alone, pieces_before, pieces_other, cut_at}

-- no word is left only where nothing of the line is left
pub is_empty-words_left : (rest : Option (Bor (List ℕ))) (words : List (List ℕ)) (r : Bool) → words_left rest ≡ words → is_some rest ≡ not r → IsTrue r ↔ (words ≡ [])
is_empty-words_left None words true left some = (λ _. sym left, λ _. search rules)
is_empty-words_left None words false left some = absurd (false≢true some)
is_empty-words_left (Some rest) words true left some = absurd (false≢true (sym some))
is_empty-words_left (Some rest) words false left some = (
  λ empty. absurd (search rules),
  λ none. absurd (omega (arith, (pieces-AreParts 32 rest.now).0, ap length (left ∙ none))),
)

-- both sides of an && that holds
pub and_true : (a b : Bool) → (a && b) ≡ true → (a ≡ true) × (b ≡ true)
and_true true b both = (refl, both)
and_true false b both = absurd (false≢true both)

-- digits have no space
HasNone-digits : (word : List ℕ) → all_ascii_digits word ≡ true → HasNone 32 word
HasNone-digits [] digits = tt
HasNone-digits (b ∷ word) digits =
    let parts : (is_ascii_digit b ≡ true) × (all_ascii_digits word ≡ true) = and_true (is_ascii_digit b) (all_ascii_digits word) digits in
    ((λ space. false≢true (sym (ap is_ascii_digit space) ∙ parts.0)), HasNone-digits word parts.1)

-- the first of the pieces, with a front before it
abbrev onto_front : List ℕ → List (List ℕ) → List (List ℕ)
onto_front front [] = front ∷ []
onto_front front (part ∷ parts) = (front ++ part) ∷ parts

onto_first-onto_front : (b : ℕ) (front : List ℕ) (parts : List (List ℕ)) → onto_first b (onto_front front parts) ≡ onto_front (b ∷ front) parts
onto_first-onto_front b front [] = refl
onto_first-onto_front b front (part ∷ parts) = refl

onto_front-nil : (parts : List (List ℕ)) → 0 < length parts → onto_front [] parts ≡ parts
onto_front-nil [] some = absurd (omega arith)
onto_front-nil (part ∷ parts) some = refl

-- a front with no separator goes onto the first piece
pieces-append : (c : ℕ) (front rest : List ℕ) → HasNone c front → pieces c (front ++ rest) ≡ onto_front front (pieces c rest)
pieces-append c [] rest none = sym (onto_front-nil (pieces c rest) (pieces-AreParts c rest).0)
pieces-append c (b ∷ front) rest none =
    pieces_other c b (front ++ rest) none.0 ∙ ap (onto_first b) (pieces-append c front rest none.1) ∙ onto_first-onto_front b front (pieces c rest)

-- no number where the first word begins with digits for the limit or more, or has another byte after them
front_large : (limit : ℕ) (front : List ℕ) (parts : List (List ℕ)) → limit ≤ digits_number front → first_number limit (onto_front front parts) ≡ None
front_large limit front [] large = ap (option_map (λ n. (n, []))) (number_of-large limit front large)
front_large limit front (part ∷ parts) large =
    ap (option_map (λ n. (n, parts))) (number_of-large limit (front ++ part) (value_of-longer limit front part large))

front_other : (limit b : ℕ) (front : List ℕ) (parts : List (List ℕ)) → is_ascii_digit b ≡ false → first_number limit (onto_front front (onto_first b parts)) ≡ None
front_other limit b front [] other = ap (option_map (λ n. (n, []))) (number_of-other limit b front [] other)
front_other limit b front (part ∷ parts) other = ap (option_map (λ n. (n, parts))) (number_of-other limit b front part other)

-- The first number of a line that begins with digits: none where they stand for the limit or more;
first_number-large : (limit : ℕ) (bytes : List ℕ) (len : ℕ) → all_ascii_digits (take len bytes) ≡ true → limit ≤ digits_number (take len bytes) → first_number limit (words_of bytes) ≡ None
first_number-large limit bytes len digits large =
    ap (λ v. first_number limit (words_of v)) (sym (take-append-drop len bytes))
    ∙ ap (first_number limit) (pieces-append 32 (take len bytes) (drop len bytes) (HasNone-digits (take len bytes) digits))
    ∙ front_large limit (take len bytes) (words_of (drop len bytes)) large

-- none where another byte than a space ends them;
pub first_number-other : (limit : ℕ) (bytes : List ℕ) (len : ℕ) → all_ascii_digits (take len bytes) ≡ true → len < length bytes → is_ascii_digit (get_or bytes len 0) ≡ false → get_or bytes len 0 ≢ 32
    → first_number limit (words_of bytes) ≡ None
first_number-other limit bytes len digits within other apart =
    ap (λ v. first_number limit (words_of v)) (sym (take-append-drop len bytes))
    ∙ ap (first_number limit) (pieces-append 32 (take len bytes) (drop len bytes) (HasNone-digits (take len bytes) digits))
    ∙ ap (λ v. first_number limit (onto_front (take len bytes) v))
    (ap words_of (drop_more bytes len 0 within) ∙ pieces_other 32 (get_or bytes len 0) (drop (len + 1) bytes) apart)
    ∙ front_other limit (get_or bytes len 0) (take len bytes) (words_of (drop (len + 1) bytes)) other

-- theirs where a space ends them;
pub first_number-space : (limit : ℕ) (bytes : List ℕ) (len : ℕ) → all_ascii_digits (take len bytes) ≡ true → 0 < len → len < length bytes → get_or bytes len 0 ≡ 32
    → digits_number (take len bytes) < limit
    → first_number limit (words_of bytes) ≡ Some (digits_number (take len bytes), words_of (drop (len + 1) bytes))
first_number-space limit bytes len digits some within space small =
    ap (λ v. first_number limit (words_of v)) (cut_at 32 bytes len within space)
    ∙ ap (first_number limit) (pieces_before 32 (take len bytes) (drop (len + 1) bytes) (HasNone-digits (take len bytes) digits))
    ∙ ap (option_map (λ n. (n, words_of (drop (len + 1) bytes))))
    (number_of-digits limit (take len bytes) (omega (arith, length-take {A = ℕ})) digits small)

-- and theirs where they are the line.
pub first_number-alone : (limit : ℕ) (bytes : List ℕ) → all_ascii_digits bytes ≡ true → 0 < length bytes → digits_number bytes < limit
    → first_number limit (words_of bytes) ≡ Some (digits_number bytes, [])
first_number-alone limit bytes digits some small =
    ap (first_number limit) (pieces_alone 32 bytes (HasNone-digits bytes digits))
    ∙ ap (option_map (λ n. (n, []))) (number_of-digits limit bytes some digits small)

-- the first of these, of what the reader of digits says
pub first_number-overflow : (bytes : List ℕ) → AreLeadingDigits bytes None → first_number (2 ^ 64) (words_of bytes) ≡ None
first_number-overflow bytes (len, begins, large) = first_number-large (2 ^ 64) bytes len begins.1 large
