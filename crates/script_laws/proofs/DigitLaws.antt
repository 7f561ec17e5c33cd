-- Words that are read as numbers are their digits after zeros.
use Rattle.std.proofs.Common.{◌≡◌, ◌↔◌, ℕ, ℤ, suc, pos, neg_ℤ, ◌+◌, ◌<◌, ◌≤◌, ◌^◌, ◌&&◌, nat_lt, Bool, true, false, List, [], ◌∷◌, ◌++◌, Some, None, length, replicate, decimal, is_some, inl, inr}
use Rattle.std.proofs.Common.{refl, sym, ap, ◌∙◌, arith}
use Rattle.std.specs.Option.{option_map}
use Rattle.std.specs.Str.{all_ascii_digits}
use Rattle.std.specs.Char.{is_ascii_digit}
use Rattle.std.proofs.lemmas.Bool.{cases_Bool, cases_eq, eq-eqb, false≢true, ltb-true, ne_eqb}
use Rattle.std.proofs.lemmas.Fmt.{decimal-digits_value}
use Rattle.decimal.specs.Numbers.{digits_number, number_of, integer_of}
use Rattle.decimal.proofs.NumberLaws.{digits_model, decimal-IsReadBack}
use Rattle.script_laws.proofs.Options.{map_some}
use Rattle.script_laws.specs.Spelling.{IsInteger, IsNumber}

-- both tests hold
both_true : (a b : Bool) → a && b ≡ true → (a ≡ true) × (b ≡ true)
both_true true b is = (refl, is)
both_true false b is = absurd (false≢true is)

-- digits are those of their value, after any zeros
stripped : (word : List ℕ) → 0 < length word → all_ascii_digits word ≡ true → digits_number word < 2 ^ 64 → (zeros : ℕ) × (word ≡ replicate zeros 48 ++ decimal (digits_number word))
stripped [] some digits small = absurd (omega (arith, some))
stripped (d ∷ []) some digits small = (0, sym (decimal-digits_value digits_model (d ∷ []) digits some (λ first. refl) small))
stripped (d ∷ e ∷ rest) some digits small = elim (cases_eq d 48) [
  | inl none ↦
      let value : digits_number (d ∷ e ∷ rest) ≡ digits_number (e ∷ rest) = rw (none) (omega arith) in
      let inner = stripped (e ∷ rest) (omega arith) (both_true (is_ascii_digit d) (all_ascii_digits (e ∷ rest)) digits).1 (omega (arith, value, small)) in
      (suc inner.0, ap (λ (b : ℕ). b ∷ e ∷ rest) none ∙ ap (λ (l : List ℕ). 48 ∷ l) (inner.1 ∙ ap (λ (n : ℕ). replicate inner.0 48 ++ decimal n) (sym value)))
  | inr other ↦ (0, sym (decimal-digits_value digits_model (d ∷ e ∷ rest) digits some (λ first. absurd (other first)) small))
]

-- a word that is read as a number
read_number : (limit n : ℕ) (word : List ℕ) → limit ≤ 2 ^ 64 → number_of limit word ≡ Some n → IsNumber limit n word
read_number limit n word wide is = elim (cases_Bool (nat_lt 0 (length word) && all_ascii_digits word && nat_lt (digits_number word) limit)) [
  | inr fails ↦ let none : None ≡ Some n = rw (fails) at is in absurd cc
  | inl holds ↦
      let found : Some (digits_number word) ≡ Some n = rw (holds) at is in
      let value : digits_number word ≡ n = cc in
      let tests = both_true (nat_lt 0 (length word) && all_ascii_digits word) (nat_lt (digits_number word) limit) holds in
      let front = both_true (nat_lt 0 (length word)) (all_ascii_digits word) tests.0 in
      let below : digits_number word < limit = ltb-true (digits_number word) limit tests.1 in
      let digits = stripped word (ltb-true 0 (length word) front.0) front.1 (omega (arith, below, wide)) in
      record { below = omega (arith, below, value); zeros = digits.0; digits = digits.1 ∙ ap (λ (m : ℕ). replicate digits.0 48 ++ decimal m) value }
]

spelled_number : (limit n : ℕ) (word : List ℕ) → limit ≤ 2 ^ 64 → IsNumber limit n word → number_of limit word ≡ Some n
spelled_number limit n word wide is = ap (number_of limit) is.digits ∙ decimal-IsReadBack limit n is.below (omega (arith, is.below, wide)) is.zeros

pub number_is : (limit n : ℕ) (word : List ℕ) → limit ≤ 2 ^ 64 → (number_of limit word ≡ Some n) ↔ IsNumber limit n word
number_is limit n word wide = (read_number limit n word wide, spelled_number limit n word wide)

-- a word that is read as a number has digits alone
only_digits : (limit n : ℕ) (word : List ℕ) → number_of limit word ≡ Some n → all_ascii_digits word ≡ true
only_digits limit n word is = elim (cases_Bool (nat_lt 0 (length word) && all_ascii_digits word && nat_lt (digits_number word) limit)) [
  | inr fails ↦ let none : None ≡ Some n = rw (fails) at is in absurd cc
  | inl holds ↦ (both_true (nat_lt 0 (length word)) (all_ascii_digits word) (both_true (nat_lt 0 (length word) && all_ascii_digits word) (nat_lt (digits_number word) limit) holds).0).1
]

read_integer : (w : ℤ) (word : List ℕ) → integer_of word ≡ Some w → IsInteger w word
read_integer w [] is = absurd (false≢true (ap is_some is))
read_integer w (first ∷ rest) is = elim (cases_eq first 45) [
  | inl sign ↦
      let found = map_some (λ (n : ℕ). neg_ℤ (pos n)) (number_of (2 ^ 63 + 1) rest) w (rw (eq-eqb first 45 sign) at is) in
      inr (found.0, rest, sym found.2, ap (λ (b : ℕ). b ∷ rest) sign, read_number (2 ^ 63 + 1) found.0 rest (omega arith) found.1)
  | inr other ↦
      let found = map_some pos (number_of (2 ^ 63) (first ∷ rest)) w (rw (ne_eqb first 45 other) at is) in
      inl (found.0, sym found.2, read_number (2 ^ 63) found.0 (first ∷ rest) (omega arith) found.1)
]

plain_integer : (n : ℕ) (word : List ℕ) → number_of (2 ^ 63) word ≡ Some n → integer_of word ≡ Some (pos n)
plain_integer n [] is = absurd (false≢true (ap is_some is))
plain_integer n (first ∷ rest) is = elim (cases_eq first 45) [
  | inl sign ↦ absurd (false≢true (rw (sign) at (only_digits (2 ^ 63) n (first ∷ rest) is)))
  | inr other ↦ rw (ne_eqb first 45 other) (ap (option_map pos) is)
]

spelled_integer : (w : ℤ) (word : List ℕ) → IsInteger w word → integer_of word ≡ Some w
spelled_integer w word (inl plain) = plain_integer plain.0 word (spelled_number (2 ^ 63) plain.0 word (omega arith) plain.2) ∙ ap Some (sym plain.1)
spelled_integer w word (inr negative) =
    ap integer_of negative.3 ∙ ap (option_map (λ (n : ℕ). neg_ℤ (pos n))) (spelled_number (2 ^ 63 + 1) negative.0 negative.1 (omega arith) negative.4) ∙ ap Some (sym negative.2)

pub integer_is : (w : ℤ) (word : List ℕ) → (integer_of word ≡ Some w) ↔ IsInteger w word
integer_is w word = (read_integer w word, spelled_integer w word)

pub number_digits : (limit n : ℕ) (word : List ℕ) → limit ≤ 2 ^ 64 → IsNumber limit n word → all_ascii_digits word ≡ true
number_digits limit n word wide is = only_digits limit n word (spelled_number limit n word wide is)
