-- The weights that updates leave.
use Rattle.std.proofs.Common.{◌≡◌, ◌≢◌, ℕ, ℤ, ◌+◌, ◌<◌, inl, inr, Option, Some, None, if◌then◌else◌, List, [], ◌∷◌, ◌++◌, refl, sym, ◌∙◌, ap, arith}
use Rattle.std.specs.Map.{keys_of}
use Rattle.std.specs.Option.{option_or}
use Rattle.std.proofs.lemmas.Bool.{cases_order, cases_Bool, eq-eqb, ne_eqb}
use Rattle.edge_updates.specs.declared.edge_update.EdgeUpdate.{EdgeUpdate}
use Rattle.edge_updates.specs.EdgeUpdate.{neighbour_of, adds}
use Rattle.ascending_lists.specs.Ascending.{AscendsFrom}
use Rattle.ascending_lists.specs.Maps.{lookup}
use Rattle.ascending_lists.specs.MapOperations.{entries_below, entries_above}
use Rattle.ascending_lists.proofs.MapCuts.{lookup_append, value_under, nothing_below, value_over}
use Rattle.pages.specs.Updates.{added, updated, weight_decided, NeighboursAscend}
use Rattle.pages.proofs.Merging.{entries_above_from, added_ascends, updated_ascends}

-- no weight is below what a list ascends from
none_low : (v low : ℕ) (xs : List (ℕ × ℤ)) → v < low → AscendsFrom low (keys_of xs) → lookup v xs ≡ None
none_low v low [] lt s = refl
none_low v low (x ∷ xs) lt s = rw (ne_eqb x.0 v (omega (arith, s.0))) (none_low v (x.0 + 1) xs (omega (arith, s.0)) s.2)

or_none : (o : Option ℤ) → option_or o None ≡ o
or_none None = refl
or_none (Some w) = refl

-- updates of greater neighbours do not decide
not_decided : (v low : ℕ) (us : List (EdgeUpdate × ℤ)) (was : Option ℤ) → v < low → NeighboursAscend low us → weight_decided v us was ≡ was
not_decided v low [] was lt s = refl
not_decided v low (u ∷ us) was lt s = rw (ne_eqb (neighbour_of u.0) v (omega (arith, s.0))) (not_decided v (neighbour_of u.0 + 1) us was (omega (arith, s.0)) s.1)

-- what an update leaves of its own neighbour, and of another one
added_here : (v : ℕ) (u : EdgeUpdate × ℤ) (ys : List (ℕ × ℤ)) → neighbour_of u.0 ≡ v → AscendsFrom (neighbour_of u.0 + 1) (keys_of ys) → lookup v (added u ys) ≡ (if adds u.0 then Some u.1 else None)
added_here v u ys at up = elim (cases_Bool (adds u.0)) [
  | inl is ↦ rw is (rw (eq-eqb (neighbour_of u.0) v at) refl)
  | inr not ↦ rw not (none_low v (neighbour_of u.0 + 1) ys (omega arith) up)
]

added_other : (v : ℕ) (u : EdgeUpdate × ℤ) (ys : List (ℕ × ℤ)) → neighbour_of u.0 ≢ v → lookup v (added u ys) ≡ lookup v ys
added_other v u ys other = elim (cases_Bool (adds u.0)) [
  | inl is ↦ rw is (rw (ne_eqb (neighbour_of u.0) v other) refl)
  | inr not ↦ rw not refl
]

pub updated_weight : (low v : ℕ) (xs : List (ℕ × ℤ)) (us : List (EdgeUpdate × ℤ)) → AscendsFrom low (keys_of xs) → NeighboursAscend low us
    → lookup v (updated xs us) ≡ weight_decided v us (lookup v xs)
updated_weight low v xs [] s t = refl
updated_weight low v xs (u ∷ us) s t =
    let n : ℕ = neighbour_of u.0 in
    let over : List (ℕ × ℤ) = entries_above n xs in
    let rest : List (ℕ × ℤ) = updated over us in
    let up : AscendsFrom (n + 1) (keys_of rest) = updated_ascends (n + 1) over us (entries_above_from n low xs s) t.1 in
    let parts : lookup v (entries_below n xs ++ added u rest) ≡ option_or (lookup v (entries_below n xs)) (lookup v (added u rest)) = lookup_append v (entries_below n xs) (added u rest) in
    elim (cases_order v n) [
      | inl at ↦
          let here : n ≡ v = sym at in
          rw (eq-eqb n v here) (parts ∙ ap (λ o. option_or o (lookup v (added u rest))) (nothing_below v n xs (omega arith)) ∙ added_here v u rest here up)
      | inr other ↦ elim other [
        | inl lt ↦
            let different : n ≢ v = omega arith in
            let none : lookup v (added u rest) ≡ None = none_low v n (added u rest) lt (added_ascends u rest up) in
            rw (ne_eqb n v different)
            (parts ∙ ap (λ o. option_or (lookup v (entries_below n xs)) o) none ∙ or_none (lookup v (entries_below n xs)) ∙ value_under v n xs lt
            ∙ sym (not_decided v (n + 1) us (lookup v xs) (omega arith) t.1))
        | inr gt ↦
            let different : n ≢ v = omega arith in
            rw (ne_eqb n v different)
            (parts ∙ ap (λ o. option_or o (lookup v (added u rest))) (nothing_below v n xs (omega arith)) ∙ added_other v u rest different
            ∙ updated_weight (n + 1) v over us (entries_above_from n low xs s) t.1 ∙ ap (weight_decided v us) (value_over v n xs gt))
      ]
    ]
