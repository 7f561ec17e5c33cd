-- Ascending lists with one more number.
use Rattle.std.proofs.Common.{◌≡◌, ℕ, ◌+◌, ◌<◌, ◌≤◌, ◌⊎◌, ◌↔◌, inl, inr, List, [], ◌∷◌, subst, sym, arith, Contains}
use Rattle.std.proofs.lemmas.Bool.{cases_lt}
use Rattle.std.proofs.lemmas.Bool.Decides.{nat_tests}
use Rattle.algorithm_meaning.specs.VertexSets.{inserted}
use Rattle.algorithm_meaning.proofs.Members.{inserted_above}
use Rattle.vertex_sets.specs.VertexSet.{IsAscendingBelow}
use Rattle.vertex_sets.proofs.Ascending.{Rises, contains_first, contains_later, contains_nothing, first_or_later, rises, same_list}

before_first : (v x : ℕ) (xs : List ℕ) → v < x → inserted v (x ∷ xs) ≡ v ∷ x ∷ xs
before_first v x xs h = grind (arith, nat_tests)

at_first : (v x : ℕ) (xs : List ℕ) → x ≤ v → v ≤ x → inserted v (x ∷ xs) ≡ x ∷ xs
at_first v x xs h k = grind (arith, nat_tests)

rises_inserted : (low v : ℕ) (xs : List ℕ) → Rises low xs → low ≤ v → Rises low (inserted v xs)
rises_inserted low v [] up le = (le, tt)
rises_inserted low v (x ∷ xs) up le =
    elim (cases_lt v x) [
      | inl under ↦ subst (Rises low) (sym (before_first v x xs under)) (le, (omega arith, up.1))
      | inr over ↦ elim (cases_lt x v) [
        | inl above ↦ subst (Rises low) (sym (inserted_above v x xs above)) (up.0, rises_inserted (x + 1) v xs up.1 (omega arith))
        | inr not_above ↦ subst (Rises low) (sym (at_first v x xs (omega arith) (omega arith))) up
      ]
    ]

-- the number is there
has_new : (v : ℕ) (xs : List ℕ) → Contains (inserted v xs) v
has_new v [] = contains_first v []
has_new v (x ∷ xs) =
    let P : List ℕ → Type 0 = λ ys. Contains ys v in
    elim (cases_lt v x) [
      | inl under ↦ subst P (sym (before_first v x xs under)) (contains_first v (x ∷ xs))
      | inr over ↦ elim (cases_lt x v) [
        | inl above ↦ subst P (sym (inserted_above v x xs above)) (contains_later x v (inserted v xs) (has_new v xs))
        | inr not_above ↦
            let same : x ≡ v = omega arith in
            subst P (sym (at_first v x xs (omega arith) (omega arith))) (subst (λ (u : ℕ). Contains (x ∷ xs) u) same (contains_first x xs))
      ]
    ]

-- and what was there
has_old : (v u : ℕ) (xs : List ℕ) → Contains xs u → Contains (inserted v xs) u
has_old v u [] is = absurd (contains_nothing u is)
has_old v u (x ∷ xs) is =
    let P : List ℕ → Type 0 = λ ys. Contains ys u in
    elim (cases_lt v x) [
      | inl under ↦ subst P (sym (before_first v x xs under)) (contains_later v u (x ∷ xs) is)
      | inr over ↦ elim (cases_lt x v) [
        | inl above ↦ subst P (sym (inserted_above v x xs above)) (elim (first_or_later x u xs is) [
          | inl here ↦ subst (λ (w : ℕ). Contains (x ∷ inserted v xs) w) (sym here) (contains_first x (inserted v xs))
          | inr there ↦ contains_later x u (inserted v xs) (has_old v u xs there)
        ])
        | inr not_above ↦ subst P (sym (at_first v x xs (omega arith) (omega arith))) is
      ]
    ]

-- and nothing else
has_no_other : (v u : ℕ) (xs : List ℕ) → Contains (inserted v xs) u → (u ≡ v) ⊎ Contains xs u
has_no_other v u [] is = elim (first_or_later v u [] is) [ inl here ↦ inl here | inr there ↦ inr there ]
has_no_other v u (x ∷ xs) is =
    let P : List ℕ → Type 0 = λ ys. Contains ys u in
    elim (cases_lt v x) [
      | inl under ↦ first_or_later v u (x ∷ xs) (subst P (before_first v x xs under) is)
      | inr over ↦ elim (cases_lt x v) [
        | inl above ↦ elim (first_or_later x u (inserted v xs) (subst P (inserted_above v x xs above) is)) [
          | inl here ↦ inr (subst (λ (w : ℕ). Contains (x ∷ xs) w) (sym here) (contains_first x xs))
          | inr there ↦ elim (has_no_other v u xs there) [ inl new ↦ inl new | inr old ↦ inr (contains_later x u xs old) ]
        ]
        | inr not_above ↦ inr (subst P (at_first v x xs (omega arith) (omega arith)) is)
      ]
    ]

-- the ascending list with a number more
pub inserted_is : (n v : ℕ) (old new : List ℕ) → IsAscendingBelow n old → IsAscendingBelow n new → ((u : ℕ) → Contains new u ↔ ((u ≡ v) ⊎ Contains old u)) → new ≡ inserted v old
inserted_is n v old new a b same =
    same_list 0 new (inserted v old) (rises n new b) (rises_inserted 0 v old (rises n old a) (omega arith))
    (λ u is. elim ((same u).0 is) [ inl here ↦ subst (λ (w : ℕ). Contains (inserted v old) w) (sym here) (has_new v old) | inr there ↦ has_old v u old there ])
    (λ u is. (same u).1 (has_no_other v u old is))
