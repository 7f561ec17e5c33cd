-- Weights and the numbers of entries.
use Rattle.std.proofs.Common.{◌≡◌, ◌≢◌, ℕ, ◌+◌, ◌-◌, ◌*◌, ◌/◌, ◌%◌, ◌≤◌, ℤ, pos, negsuc, true, false, inl, inr, List, ◌∷◌, ◌++◌, refl, sym, ap, arith}
use Rattle.std.proofs.lemmas.Bool.{false≢true, cases_Bool, cases_eq, eq-eqb, ne_eqb, eqb-true}
use Rattle.tail_codec.specs.Spelling.{weight_number, is_one, entry_numbers}
use Rattle.tail_codec.specs.inside.Decoding.{number_weight, entries_from}

pub weight_of : (w : ℤ) → number_weight (weight_number w) ≡ w
weight_of (pos n) =
    let even : 2 * n % 2 ≡ 0 = omega arith in
    let half : 2 * n / 2 ≡ n = omega arith in
    rw (eq-eqb (2 * n % 2) 0 even, half) refl
weight_of (negsuc n) =
    let odd : (2 * n + 1) % 2 ≢ 0 = omega arith in
    let half : (2 * n + 1) / 2 ≡ n = omega arith in
    rw (ne_eqb ((2 * n + 1) % 2) 0 odd, half) refl

pub number_of : (n : ℕ) → weight_number (number_weight n) ≡ n
number_of n =
    elim (cases_eq (n % 2) 0) [
      | inl even ↦
          let whole : 2 * (n / 2) ≡ n = omega (arith, even) in
          rw (eq-eqb (n % 2) 0 even) whole
      | inr odd ↦
          let whole : 2 * (n / 2) + 1 ≡ n = omega arith in
          rw (ne_eqb (n % 2) 0 odd) whole
    ]

pub one_is : (w : ℤ) → is_one w ≡ true → w ≡ pos 1
one_is (pos n) h = ap pos (eqb-true n 1 h)
one_is (negsuc n) h = absurd (false≢true h)

-- The numbers of an entry stand for it, whatever follows.
pub entry_first : (low k : ℕ) (w : ℤ) (rest : List ℕ) → low ≤ k → entries_from false low (entry_numbers (k - low) w ++ rest) ≡ (k, w) ∷ entries_from false (k + 1) rest
entry_first low k w rest le =
    elim (cases_Bool (is_one w)) [
      | inl h ↦
          let even : 2 * (k - low) % 2 ≡ 0 = omega arith in
          let up : low + 2 * (k - low) / 2 ≡ k = omega arith in
          rw h (rw (eq-eqb (2 * (k - low) % 2) 0 even, up) (ap (λ (v : ℤ). (k, v) ∷ entries_from false (k + 1) rest) (sym (one_is w h))))
      | inr h ↦
          let odd : (2 * (k - low) + 1) % 2 ≢ 0 = omega arith in
          let up : low + (2 * (k - low) + 1) / 2 ≡ k = omega arith in
          rw h (rw (ne_eqb ((2 * (k - low) + 1) % 2) 0 odd, up) (ap (λ (v : ℤ). (k, v) ∷ entries_from false (k + 1) rest) (weight_of w)))
    ]
