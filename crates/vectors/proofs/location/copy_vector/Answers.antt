-- Proofs of `copy_vector`, src/location.rt.
use Rattle.std.proofs.Common.{◌≡◌, ℕ, ℤ, List, [], ◌∷◌, ◌++◌, map, ap, sym, ◌∙◌, arith, rules, FitsSigned, to_z, of_z, w64}
use Rattle.std.proofs.lemmas.Int.{to_z-of_z}
use Rattle.std.proofs.lemmas.List.FromFn.{map-range_with_len_more}
use Rattle.std.specs.List.{range_with_len}
use Rattle.vectors.specs.Lanes.{lane_entry}
use Rattle.vectors.proofs.Layouts.{lane_is_vector}
use Rattle.vectors.proofs.location.copy_vector.Goals as goal

pub vertices-preserved : goal.vertices-preserved
vertices-preserved c =
    let v = c.vertices.vertex in
    let f : ℕ → ℤ = λ u. lane_entry c.lane_of-lane.result u in
    let fits : FitsSigned w64 c.get.result = search rules in
    c.in_ok-push.ensures.items
    ∙ ap (λ (xs : List ℤ). xs ++ to_z w64 (of_z w64 c.get.result) ∷ []) c.vertices.invariant
    ∙ ap (λ (x : ℤ). map f (range_with_len 0 v) ++ x ∷ []) (to_z-of_z w64 c.get.result fits ∙ c.get.ensures)
    ∙ sym (map-range_with_len_more f 0 v v (omega arith))

pub returns : goal.returns
returns c =
    let f : ℕ → ℤ = λ u. lane_entry c.lane_of-lane.result u in
    let end : c.vertices.vertex ≡ c.args.location.vertices = omega arith in
    c.new.ensures ∙ c.vertices.invariant ∙ ap (λ (k : ℕ). map f (range_with_len 0 k)) end
    ∙ lane_is_vector c.args.arrays.now c.args.location f c.lane_of-lane.ensures
