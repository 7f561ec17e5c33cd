-- Proofs of `join_each`, src/joins.rt.
use Rattle.std.proofs.Common.{rules, ◌≡◌, ◌≤◌, ◌<◌, ℕ, ℤ, pos, [], drop, length, List, sym, ap, ◌∙◌, FitsSigned, to_z, of_z, w64, arith}
use Rattle.std.proofs.lemmas.Int.{to_z-of_z}
use Rattle.std.proofs.lemmas.List.{drop_all}
use Rattle.edge_fold.specs.Between.{firsts}
use Rattle.edge_fold.specs.inside.Contributions.{each_given}
use Rattle.edge_fold.specs.Contributions.{reduced_at}
use Rattle.edge_fold.specs.Held.{held_with}
use Rattle.edge_fold.specs.FoldStarts.{combined_with_seed}
use Rattle.edge_fold.specs.inside.FoldStarts.{initial_seed, start_of}
use Rattle.edge_fold.proofs.Filled.{given_first}
use Rattle.edge_fold.proofs.WeightColumns.{first_at, firsts-length}
use Rattle.edge_fold.proofs.accumulator.Accumulator.join_each.Goals as goal

pub each-preserved : goal.each-preserved
each-preserved g c = λ v h.
    let a = c.args in
    let es = g.E.NeighbourEntries.entries a.destinations.now in
    let k = c.each.index in
    let number = to_z w64 (of_z w64 a.number) in
    let now = held_with (combined_with_seed (start_of a.seeds) a.reduction) c.each.self v (initial_seed a.seeds v h) in
    let within : k < length es = omega (arith, c.each-test.true, c.len-index-end.ensures) in
    let count = firsts-length es in
    let more : k < length (firsts es) = omega (arith, within, count) in
    given_first a.reduction number (firsts es) k c.neighbour.result v now _ more (c.neighbour.ensures ∙ first_at es k (0, pos 1) 0 within) (c.in_ok-join.ensures v h)
    ∙ c.each.invariant v h

pub returns : goal.returns
returns g c v h =
    let a = c.args in
    let fits : FitsSigned w64 a.number = search rules in
    let es = g.E.NeighbourEntries.entries a.destinations.now in
    let ds = firsts es in
    let combine = combined_with_seed (start_of a.seeds) a.reduction in
    let o = initial_seed a.seeds v h in
    let count = firsts-length es in
    let past : length ds ≤ c.each.index = omega (arith, c.each-test.false, c.len-index-end.ensures, count) in
    let done : drop c.each.index ds ≡ [] = drop_all c.each.index ds past in
    sym (ap (λ (left : List ℕ). reduced_at a.reduction v (held_with combine c.each.self v o) (each_given (to_z w64 (of_z w64 a.number)) left)) done)
    ∙ c.each.invariant v h
    ∙ ap (λ (n : ℤ). reduced_at a.reduction v (held_with combine a.self.now v o) (each_given n ds)) (to_z-of_z w64 a.number fits)
