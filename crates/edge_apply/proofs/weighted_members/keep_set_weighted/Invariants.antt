use Rattle.std.proofs.Common.{◌≡◌, length}
use Rattle.std.proofs.lemmas.List.Filters.{FiltersInPlace}
use Rattle.edge_fold.specs.Contributions.{weighted_entries}
use Rattle.edge_apply.specs.Words.{is_set}
use Rattle.edge_apply.proofs.weighted_members.keep_set_weighted.Given as goal

-- those that pass among the positions that have come are at the front with their weights, and the others are as they were
abbrev pub invariant-positions : goal.invariant-positions
invariant-positions l = record {
  room : length l.block ≡ length l.fn.block;
  same : length l.weights ≡ length l.fn.weights;
  entries : FiltersInPlace (λ e. is_set l.words e.0) (weighted_entries l.fn.block l.fn.weights) (weighted_entries l.block l.weights) l.kept l.position;
}
