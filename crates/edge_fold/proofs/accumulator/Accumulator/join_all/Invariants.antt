use Rattle.std.proofs.Common.{◌≡◌, ℕ, ℤ, drop}
use Rattle.kernels.specs.ContributionColumns.{contribution_at}
use Rattle.edge_fold.specs.inside.Contributions.{given_from}
use Rattle.edge_fold.specs.Contributions.{reduced_at}
use Rattle.edge_fold.specs.Held.{held_with}
use Rattle.edge_fold.specs.FoldStarts.{combined_with_seed}
use Rattle.edge_fold.specs.inside.FoldStarts.{initial_seed, start_of}
use Rattle.edge_fold.proofs.accumulator.Accumulator.join_all.Given as goal

-- the entries that are held, reduced with what is left to join, are the whole
abbrev pub invariant-pairs : goal.invariant-pairs
invariant-pairs l = (v : ℕ) (h : ℤ)
    → reduced_at l.reduction v (held_with (combined_with_seed (start_of l.seeds) l.reduction) l.self v (initial_seed l.seeds v h))
    (given_from l.contribution.vector (contribution_at l.contribution) l.k (drop l.k l.destinations))
    ≡ reduced_at l.reduction v (held_with (combined_with_seed (start_of l.seeds) l.reduction) l.fn.self v (initial_seed l.seeds v h))
    (given_from l.contribution.vector (contribution_at l.contribution) 0 l.destinations)
