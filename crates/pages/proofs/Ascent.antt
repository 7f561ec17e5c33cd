-- Ascending lists and their elements.
use Rattle.std.proofs.Common.{◌≡◌, ◌≢◌, ℕ, zero, suc, ◌+◌, ◌^◌, ◌<◌, ◌≤◌, true, false, inl, inr, List, [], ◌∷◌, length, get_or, refl, arith}
use Rattle.std.proofs.lemmas.Bool.{cases_eq, cases_lt, eq-eqb, ne_eqb}
use Rattle.ascending_lists.specs.Ascending.{AscendsFrom}
use Rattle.ascending_lists.specs.Sets.{has}

-- the element at an index is below 2 ^ 32, and no lower than what the list ascends from
pub small_at : (low : ℕ) (xs : List ℕ) → AscendsFrom low xs → (i : ℕ) → i < length xs → get_or xs i 0 < 2 ^ 32
small_at low [] s i lt = absurd (omega arith)
small_at low (x ∷ xs) s zero lt = s.1
small_at low (x ∷ xs) s (suc i) lt = small_at (x + 1) xs s.2 i (omega arith)

pub low_at : (low : ℕ) (xs : List ℕ) → AscendsFrom low xs → (i : ℕ) → i < length xs → low ≤ get_or xs i 0
low_at low [] s i lt = absurd (omega arith)
low_at low (x ∷ xs) s zero lt = s.0
low_at low (x ∷ xs) s (suc i) lt = omega (arith, s.0, low_at (x + 1) xs s.2 i (omega arith))

-- elements at different indices stand in their order
pub rises_strictly : (low : ℕ) (xs : List ℕ) → AscendsFrom low xs → (i j : ℕ) → i < j → j < length xs → get_or xs i 0 < get_or xs j 0
rises_strictly low [] s i j le lt = absurd (omega arith)
rises_strictly low (x ∷ xs) s i zero le lt = absurd (omega arith)
rises_strictly low (x ∷ xs) s zero (suc j) le lt = omega (arith, low_at (x + 1) xs s.2 j (omega arith))
rises_strictly low (x ∷ xs) s (suc i) (suc j) le lt = rises_strictly (x + 1) xs s.2 i j (omega arith) (omega arith)

-- a number is an element where it stands at an index, and only there
pub has_at : (k i : ℕ) (xs : List ℕ) → i < length xs → get_or xs i 0 ≡ k → has k xs ≡ true
has_at k i [] lt is = absurd (omega arith)
has_at k zero (x ∷ xs) lt is = rw (eq-eqb x k is) refl
has_at k (suc i) (x ∷ xs) lt is = elim (cases_eq x k) [ inl e ↦ rw (eq-eqb x k e) refl | inr ne ↦ rw (ne_eqb x k ne) (has_at k i xs (omega arith) is) ]

pub has_nowhere : (k : ℕ) (xs : List ℕ) → ((i : ℕ) → i < length xs → get_or xs i 0 ≢ k) → has k xs ≡ false
has_nowhere k [] none = refl
has_nowhere k (x ∷ xs) none = rw (ne_eqb x k (none 0 (omega arith))) (has_nowhere k xs (λ i lt. none (suc i) (omega arith)))

-- so where all are below it or above it
pub has_between : (k low high : ℕ) (xs : List ℕ) → high ≤ low → ((i : ℕ) → i < low → i < length xs → get_or xs i 0 < k) → ((i : ℕ) → high ≤ i → i < length xs → k < get_or xs i 0) → has k xs ≡ false
has_between k low high xs le under over = has_nowhere k xs (λ i lt is. elim (cases_lt i low) [ inl before ↦ omega (arith, under i before lt) | inr after ↦ omega (arith, over i (omega arith) lt) ])
