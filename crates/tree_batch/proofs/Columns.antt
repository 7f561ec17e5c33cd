-- The neighbours of a vertex among edges, in both directions.
use Rattle.std.proofs.Common.{◌≡◌, ℕ, ◌+◌, ◌*◌, ◌^◌, ◌≤◌, ◌==◌, ℤ, Bool, true, false, ◌&&◌, Option, Some, if◌then◌else◌, inl, inr, List, [], ◌∷◌, refl, ap, arith}
use Rattle.std.proofs.lemmas.Bool.{cases_Bool, eqb-true}
use Rattle.std.specs.Map.{keys_of}
use Rattle.ascending_lists.specs.Ascending.{AscendsFrom}
use Rattle.ascending_lists.specs.Maps.{lookup}
use Rattle.ascending_lists.proofs.MapKeys.{entries_rise}
use Rattle.ascending_lists.proofs.MapValues as values
use Rattle.weighted_edges.specs.Edge.{Edge}
use Rattle.tree_batch.specs.Edge.{ends_of, index, weight_in, EdgesRise}
use Rattle.tree_batch.specs.Neighbours.{destinations_of, sources_of}
use Rattle.tree_batch.proofs.Rising.{rises_within}

-- a destination has the weight of its edge
pub destination_weight : (es : List Edge) (u v : ℕ) → lookup v (destinations_of u es) ≡ weight_in (u, v) es
destination_weight [] u v = refl
destination_weight (e ∷ es) u v = elim (cases_Bool (e.0 == u)) [
  | inl at ↦ rw at (ap (λ (o : Option ℤ). if e.1 == v then Some e.2 else o) (destination_weight es u v))
  | inr other ↦ rw other (destination_weight es u v)
]

and_true : (a : Bool) → (a && true) ≡ a
and_true true = refl
and_true false = refl

and_false : (a : Bool) → (a && false) ≡ false
and_false true = refl
and_false false = refl

-- and so has a source
pub source_weight : (es : List Edge) (u v : ℕ) → lookup u (sources_of v es) ≡ weight_in (u, v) es
source_weight [] u v = refl
source_weight (e ∷ es) u v = elim (cases_Bool (e.1 == v)) [
  | inl at ↦ rw (at, and_true (e.0 == u), source_weight es u v)
  | inr other ↦ rw (other, and_false (e.0 == u), source_weight es u v)
]

-- sources ascend where the edges rise
pub sources_ascend : (v low high least : ℕ) (es : List Edge) → high ≤ 2 ^ 64 → EdgesRise low high es → ((w : ℕ) → low ≤ w * 2 ^ 32 + v → least ≤ w) → AscendsFrom least (keys_of (sources_of v es))
sources_ascend v low high least [] top s from = tt
sources_ascend v low high least (e ∷ es) top s from = elim (cases_Bool (e.1 == v)) [
  | inl at ↦
      let is : e.1 ≡ v = eqb-true e.1 v at in
      let room = rises_within (index (ends_of e) + 1) high es s.2 in
      rw at (from e.0 (omega (arith, s.0)), omega arith, sources_ascend v (index (ends_of e) + 1) high (e.0 + 1) es top s.2 (λ w le. omega arith))
  | inr other ↦ rw other (sources_ascend v (index (ends_of e) + 1) high least es top s.2 (λ w le. from w (omega (arith, s.0))))
]

-- ascending lists with the same weights are the same
pub same_entries : (xs ys : List (ℕ × ℤ)) → AscendsFrom 0 (keys_of xs) → AscendsFrom 0 (keys_of ys) → ((v : ℕ) → lookup v xs ≡ lookup v ys) → xs ≡ ys
same_entries xs ys s t same = values.same_entries 0 (2 ^ 32) xs ys (entries_rise 0 xs (omega arith) s) (entries_rise 0 ys (omega arith) t) same
