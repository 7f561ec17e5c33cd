use Rattle.std.proofs.Common.{◌≡◌, ℕ, ◌<◌, false}
use Rattle.kernels.specs.ContributionColumns.{truth_at}
use Rattle.edge_fold.proofs.joins.gives_some.Given as goal

-- the pairs that have come are given nothing
abbrev pub invariant-pairs : goal.invariant-pairs
invariant-pairs l = (i : ℕ) → i < l.pair → truth_at l.contribution.predicate i ≡ false
