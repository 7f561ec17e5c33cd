-- Proofs of `join_each_weight`, src/joins.rt.
use Rattle.std.proofs.Common.{rules, ◌≡◌, ◌<◌, pos, length, get_or, to_z, of_z, w64, ◌∙◌, arith}
use Rattle.edge_fold.specs.inside.EntryNumbers.{number_with}
use Rattle.edge_fold.specs.Held.{held_with}
use Rattle.edge_fold.specs.FoldStarts.{combined_with_seed}
use Rattle.edge_fold.specs.inside.FoldStarts.{initial_seed, start_of}
use Rattle.edge_fold.proofs.EntryRows.{one_weight_more}
use Rattle.edge_fold.proofs.accumulator.Accumulator.join_each_weight.Goals as goal

pub edges-preserved : goal.edges-preserved
edges-preserved g c = λ v h.
    let a = c.args in
    let k = c.edges.index in
    let es = g.E.NeighbourEntries.entries a.destinations.now in
    let f = number_with a.numbers in
    let within : k < length es = omega (arith, c.edges-test.true, c.len-index-end.ensures) in
    let now = held_with (combined_with_seed (start_of a.seeds) a.reduction) c.edges.self v (initial_seed a.seeds v h) in
    let number : to_z w64 (of_z w64 c.of-number.result) ≡ f (get_or es k (0, pos 1)).1 = search rules in
    one_weight_more a.reduction v f now _ k c.neighbour.result (to_z w64 (of_z w64 c.of-number.result)) es within c.neighbour.ensures number (c.in_ok-join.ensures v h)
    ∙ c.edges.invariant v h
