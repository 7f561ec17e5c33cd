-- Ascending lists of vertices, and one more vertex.
use Rattle.std.proofs.Common.{◌≡◌, ℕ, zero, suc, ◌+◌, ◌<◌, ◌≤◌, ◌==◌, nat_lt, List, [], ◌∷◌, get_or, All, inl, inr, refl, sym, subst, arith}
use Rattle.std.proofs.lemmas.Bool.{cases_Bool, eqb-false, ltb-false, ltb-true}
use Rattle.std.proofs.lemmas.List.Elements.{All-cons, All-head, All-nil, All-tail}
use Rattle.std.specs.List.Sorted.{IsStrictlyIncreasing}
use Rattle.algorithm_meaning.specs.VertexSets.{inserted}
use Rattle.meaning_laws.specs.Members.{AreVertices}

-- the numbers ascend from low on
abbrev Rises : ℕ → List ℕ → Type 0
Rises low [] = Unit {0}
Rises low (x ∷ xs) = (low ≤ x) × Rises (x + 1) xs

-- the index of the second of two, either way
next_index : (k : ℕ) → suc k + 1 ≡ suc (k + 1)
next_index k = omega arith

one_further : (xs : List ℕ) (k : ℕ) → get_or xs (suc k) 0 < get_or xs (suc k + 1) 0 → get_or xs (suc k) 0 < get_or xs (suc (k + 1)) 0
one_further xs k is = subst (λ (m : ℕ). get_or xs (suc k) 0 < get_or xs m 0) (next_index k) is

one_back : (xs : List ℕ) (k : ℕ) → get_or xs (suc k) 0 < get_or xs (suc (k + 1)) 0 → get_or xs (suc k) 0 < get_or xs (suc k + 1) 0
one_back xs k is = subst (λ (m : ℕ). get_or xs (suc k) 0 < get_or xs m 0) (sym (next_index k)) is

rises : (low : ℕ) (xs : List ℕ) → ((x : ℕ) (rest : List ℕ) → xs ≡ x ∷ rest → low ≤ x) → IsStrictlyIncreasing xs → Rises low xs
rises low [] first are = tt
rises low (x ∷ []) first are = (first x [] refl, tt)
rises low (x ∷ y ∷ ys) first are = (
  first x (y ∷ ys) refl,
  rises (x + 1) (y ∷ ys) (λ z rest same. let head : y ≡ z = cc in omega (arith, head, are 0 (omega arith))) (λ k within. one_further (x ∷ y ∷ ys) k (are (suc k) (omega (arith, within)))),
)

increasing : (low : ℕ) (xs : List ℕ) → Rises low xs → IsStrictlyIncreasing xs
increasing low [] are k within = absurd (omega (arith, within))
increasing low (x ∷ []) are k within = absurd (omega (arith, within))
increasing low (x ∷ y ∷ ys) are zero within = omega (arith, are.1.0)
increasing low (x ∷ y ∷ ys) are (suc k) within = one_back (x ∷ y ∷ ys) k (increasing (x + 1) (y ∷ ys) are.1 k (omega (arith, within)))

inserted_rises : (v low : ℕ) (xs : List ℕ) → low ≤ v → Rises low xs → Rises low (inserted v xs)
inserted_rises v low [] le are = (le, tt)
inserted_rises v low (x ∷ xs) le are = elim (cases_Bool (nat_lt v x)) [
  | inl before ↦ rw (before) (le, (omega (arith, ltb-true v x before), are.1))
  | inr within ↦ elim (cases_Bool (v == x)) [
    | inl same ↦ rw (within, same) are
    | inr other ↦ rw (within, other) (are.0, inserted_rises v (x + 1) xs (omega (arith, ltb-false v x within, eqb-false v x other)) are.1)
  ]
]

inserted_all : (P : ℕ → Type 0) (v : ℕ) (xs : List ℕ) → P v → All P xs → All P (inserted v xs)
inserted_all P v [] is are = All-cons P v [] is are
inserted_all P v (x ∷ xs) is are = elim (cases_Bool (nat_lt v x)) [
  | inl before ↦ rw (before) (All-cons P v (x ∷ xs) is are)
  | inr within ↦ elim (cases_Bool (v == x)) [
    | inl same ↦ rw (within, same) are
    | inr other ↦ rw (within, other) (All-cons P x (inserted v xs) (All-head P x xs are) (inserted_all P v xs is (All-tail P x xs are)))
  ]
]

-- vertices with one more
pub inserted_vertices : (n v : ℕ) (members : List ℕ) → v < n → AreVertices n members → AreVertices n (inserted v members)
inserted_vertices n v members below are = record {
  ascending = increasing 0 (inserted v members) (inserted_rises v 0 members (omega arith) (rises 0 members (λ x rest same. omega arith) are.ascending));
  below = inserted_all (λ m. m < n) v members below are.below;
}

pub no_vertices : (n : ℕ) → AreVertices n []
no_vertices n = record { ascending = λ k within. absurd (omega (arith, within)); below = All-nil (λ m. m < n) }
