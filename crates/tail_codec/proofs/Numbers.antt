-- The spelling of numbers, against what bytes stand for one by one.
use Rattle.std.proofs.Common.{◌≡◌, ℕ, ◌+◌, ◌-◌, ◌*◌, ◌/◌, ◌%◌, ◌<◌, ◌≤◌, zero, suc, inl, inr, List, [], ◌∷◌, ◌++◌, length, refl, sym, ◌∙◌, ap, append_assoc, arith, nat_lt}
use Rattle.std.proofs.lemmas.Bool.{cases_lt, cond-true, cond-false, lt-ltb, le-ltb}
use Rattle.std.proofs.lemmas.List.{append-nil}
use Rattle.tail_codec.specs.Spelling.{SpellsNumber, SpellsNumbers}
use Rattle.tail_codec.specs.inside.Decoding.{numbers_from}

-- a byte below 128 ends its number, one from 128 on does not
numbers_from-last : (from place b : ℕ) (bytes : List ℕ) → b < 128 → numbers_from from place (b ∷ bytes) ≡ (from + place * b) ∷ numbers_from 0 1 bytes
numbers_from-last from place b bytes h = cond-true (nat_lt b 128) _ _ (lt-ltb b 128 h)

numbers_from-more : (from place b : ℕ) (bytes : List ℕ) → 128 ≤ b → numbers_from from place (b ∷ bytes) ≡ numbers_from (from + place * (b - 128)) (place * 128) bytes
numbers_from-more from place b bytes h = cond-false (nat_lt b 128) _ _ (le-ltb b 128 h)

-- seven bits, and what stands above them
parts_of : (k place : ℕ) → place * k ≡ place * (k % 128) + place * 128 * (k / 128)
parts_of k place =
    let parts : k ≡ k % 128 + 128 * (k / 128) = omega arith in
    let scaled : place * k ≡ place * (k % 128 + 128 * (k / 128)) = ap (λ (n : ℕ). place * n) parts in
    omega arith

-- what is left of a byte with the top bit set
low_bits : (r : ℕ) → 128 + r - 128 ≡ r
low_bits r = omega arith

pub joined : (from k place : ℕ) → from + place * (128 + k % 128 - 128) + place * 128 * (k / 128) ≡ from + place * k
joined from k place = rw (low_bits (k % 128)) (omega (arith, parts_of k place))

-- The bytes of a number stand for it, whatever follows.
numbers_from-number : (k : ℕ) (first rest : List ℕ) (from place : ℕ) → SpellsNumber k first → numbers_from from place (first ++ rest) ≡ (from + place * k) ∷ numbers_from 0 1 rest
numbers_from-number k [] rest from place spells = absurd spells
numbers_from-number k (b ∷ bytes) rest from place spells = elim spells [
  | inl h ↦ rw (h.1, h.2) (numbers_from-last from place k rest h.0)
  | inr h ↦
      rw h.1
      (numbers_from-more from place (128 + k % 128) (bytes ++ rest) (omega arith)
      ∙ numbers_from-number (k / 128) bytes rest (from + place * (128 + k % 128 - 128)) (place * 128) h.2
      ∙ ap (λ (n : ℕ). n ∷ numbers_from 0 1 rest) (joined from k place))
]

pub number_first : (k : ℕ) (first rest : List ℕ) → SpellsNumber k first → numbers_from 0 1 (first ++ rest) ≡ k ∷ numbers_from 0 1 rest
number_first k first rest spells =
    let same : 0 + 1 * k ≡ k = omega arith in
    numbers_from-number k first rest 0 1 spells ∙ ap (λ (n : ℕ). n ∷ numbers_from 0 1 rest) same

pub numbers_first : (ks first rest : List ℕ) → SpellsNumbers ks first → numbers_from 0 1 (first ++ rest) ≡ ks ++ numbers_from 0 1 rest
numbers_first [] first rest spells = rw spells refl
numbers_first (k ∷ ks) first rest (a, b, cut, number, others) =
    ap (λ v. numbers_from 0 1 (v ++ rest)) cut
    ∙ ap (numbers_from 0 1) (append_assoc a b rest)
    ∙ number_first k a (b ++ rest) number
    ∙ ap (λ v. k ∷ v) (numbers_first ks b rest others)

pub numbers_whole : (ks bytes : List ℕ) → SpellsNumbers ks bytes → numbers_from 0 1 bytes ≡ ks
numbers_whole [] bytes spells = rw spells refl
numbers_whole (k ∷ ks) bytes (a, b, cut, number, others) =
    ap (numbers_from 0 1) cut ∙ number_first k a b number ∙ ap (λ v. k ∷ v) (numbers_whole ks b others)

-- A number has one spelling at most, and so have numbers.
pub same_number : (k : ℕ) (s t : List ℕ) → SpellsNumber k s → SpellsNumber k t → s ≡ t
same_number k [] t one other = absurd one
same_number k (b ∷ s) [] one other = absurd other
same_number k (b ∷ s) (c ∷ t) (inl h) (inl g) = rw (h.1, h.2, g.1, g.2) refl
same_number k (b ∷ s) (c ∷ t) (inl h) (inr g) = absurd (omega (arith, h.0, g.0))
same_number k (b ∷ s) (c ∷ t) (inr h) (inl g) = absurd (omega (arith, h.0, g.0))
same_number k (b ∷ s) (c ∷ t) (inr h) (inr g) = rw (h.1, g.1) (ap (λ (v : List ℕ). (128 + k % 128) ∷ v) (same_number (k / 128) s t h.2 g.2))

pub same_numbers : (ks s t : List ℕ) → SpellsNumbers ks s → SpellsNumbers ks t → s ≡ t
same_numbers [] s t one other = one ∙ sym other
same_numbers (k ∷ ks) s t (a, b, cut, number, others) (a', b', cut', number', others') =
    rw (cut, cut')
    (ap (λ (v : List ℕ). v ++ b) (same_number k a a' number number')
    ∙ ap (λ (v : List ℕ). a' ++ v) (same_numbers ks b b' others others'))

-- Each number has a spelling, and so have numbers.
number_spelling : (bound k : ℕ) → k ≤ bound → (s : List ℕ) × SpellsNumber k s
number_spelling zero k le = (0 ∷ [], inl (omega arith, omega arith, refl))
number_spelling (suc bound) k le = elim (cases_lt k 128) [
  | inl lt ↦ (k ∷ [], inl (lt, refl, refl))
  | inr ge ↦
      let (high, spells) = number_spelling bound (k / 128) (omega arith) in
      ((128 + k % 128) ∷ high, inr (ge, refl, spells))
]

pub numbers_spelling : (ks : List ℕ) → (s : List ℕ) × SpellsNumbers ks s
numbers_spelling [] = ([], refl)
numbers_spelling (k ∷ ks) =
    let first = number_spelling k k (omega arith) in
    let rest = numbers_spelling ks in
    (first.0 ++ rest.0, (first.0, rest.0, refl, first.1, rest.1))

-- numbers before others, and taken apart
pub numbers_append : (ks js s t : List ℕ) → SpellsNumbers ks s → SpellsNumbers js t → SpellsNumbers (ks ++ js) (s ++ t)
numbers_append [] js s t one other = rw one other
numbers_append (k ∷ ks) js s t (a, b, cut, number, others) other =
    (a, b ++ t, rw cut (append_assoc a b t), number, numbers_append ks js b t others other)

pub numbers_split : (ks js bytes : List ℕ) → SpellsNumbers (ks ++ js) bytes → (s : List ℕ) × (t : List ℕ) × (bytes ≡ s ++ t) × SpellsNumbers ks s × SpellsNumbers js t
numbers_split [] js bytes spells = ([], bytes, refl, refl, spells)
numbers_split (k ∷ ks) js bytes (a, b, cut, number, others) =
    let (s, t, cut', first, second) = numbers_split ks js b others in
    (a ++ s, t, cut ∙ ap (λ v. a ++ v) cut' ∙ sym (append_assoc a s t), (a, s, refl, number, first), second)

-- the bytes of a number, and of one and no other
pub number_some : (k : ℕ) (s : List ℕ) → SpellsNumber k s → 0 < length s
number_some k [] spells = absurd spells
number_some k (b ∷ s) spells = omega arith

pub one_number : (k : ℕ) (s : List ℕ) → SpellsNumber k s → SpellsNumbers (k ∷ []) s
one_number k s spells = (s, [], sym (append-nil s), spells, refl)
