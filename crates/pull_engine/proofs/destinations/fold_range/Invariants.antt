use Rattle.std.proofs.Common.{◌≡◌, ◌*◌, ◌-◌}
use Rattle.std.specs.List.{filter, range_with_len}
use Rattle.edge_fold.proofs.Walks.{FoldsMore}
use Rattle.edge_apply.specs.Words.{passes_words}
use Rattle.pull_engine.specs.Columns.{columns}
use Rattle.pull_engine.specs.inside.Lets.{lets}
use Rattle.pull_engine.proofs.RangeCuts.{within}
use Rattle.pull_engine.proofs.destinations.fold_range.Given as goal

-- the edges into the vertices of the blocks so far are folded, and the destinations stay
abbrev pub invariant-rounds : goal.invariant-rounds
invariant-rounds l = record {
  same : l.to ≡ l.initial.to;
  folded : FoldsMore l.input.context (columns (passes_words l.input.from) l.input.flat.now.edges
      (filter (within l.range.low l.range.high (lets l.initial.to)) (range_with_len (64 * l.first) (64 * (l.block - l.first)))))
      l.initial.scratch l.scratch;
}
