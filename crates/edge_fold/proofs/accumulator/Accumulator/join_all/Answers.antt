-- Proofs of `join_all`, src/joins.rt.
use Rattle.std.proofs.Common.{◌<◌, ◌+◌, ℤ, length, drop, ap, ◌∙◌}
use Rattle.kernels.specs.ContributionColumns.{contribution_at}
use Rattle.edge_fold.specs.inside.Contributions.{given_from}
use Rattle.edge_fold.specs.Contributions.{reduced_at}
use Rattle.edge_fold.specs.Held.{held_with}
use Rattle.edge_fold.specs.FoldStarts.{combined_with_seed}
use Rattle.edge_fold.specs.inside.FoldStarts.{initial_seed, start_of}
use Rattle.edge_fold.proofs.Folds.{one_pair_more}
use Rattle.edge_fold.proofs.accumulator.Accumulator.join_all.Goals as goal

pub pairs-preserved : goal.pairs-preserved
pairs-preserved c = λ v h.
    let a = c.args in
    let k = c.pairs.k in
    let row = contribution_at a.contribution in
    let ds = a.destinations.now in
    let inside : k < length ds = c.pairs-test.true in
    ap (λ (n : ℤ). reduced_at a.reduction v n (given_from a.contribution.vector row (k + 1) (drop (k + 1) ds))) (c.in_ok-join_pair.ensures v h)
    ∙ one_pair_more a.reduction v a.contribution.vector (held_with (combined_with_seed (start_of a.seeds) a.reduction) c.pairs.self v (initial_seed a.seeds v h)) row k ds inside
    ∙ c.pairs.invariant v h
