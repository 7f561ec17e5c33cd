-- Proofs of `number_between`, src/vertices.rt.
use Rattle.std.proofs.Common.{◌≡◌, ℕ, ◌+◌, ◌-◌, ◌≤◌, ◌++◌, [], ◌∷◌, List, sym, ap, ◌∙◌, arith}
use Rattle.std.specs.List.{range_with_len}
use Rattle.vertex_sets.proofs.Ascending.{range_end}
use Rattle.edge_apply.proofs.vertices.number_between.Goals as goal

pub vertices-preserved : goal.vertices-preserved
vertices-preserved c =
    let a = c.args.first in
    let v = c.vertices.vertex in
    let from : a ≤ v = c.vertices.auto.vertex in
    let at : v ≡ a + (v - a) = omega arith in
    let more : v - a + 1 ≡ v + 1 - a = omega arith in
    c.in_ok-push.ensures.items ∙ ap (λ (ns : List ℕ). ns ++ v ∷ []) c.vertices.invariant ∙ sym (range_end a (v - a) v at) ∙ ap (range_with_len a) more
