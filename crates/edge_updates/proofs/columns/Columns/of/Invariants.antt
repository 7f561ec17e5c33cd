use Rattle.std.proofs.Common.{◌≡◌, length, take}
use Rattle.edge_updates.specs.Weighted.{weighted}
use Rattle.edge_updates.specs.WeightedUpdates.{pairs_in}
use Rattle.edge_updates.proofs.columns.Columns.of.Given as goal

abbrev pub invariant-loop-pair : goal.invariant-loop-pair
invariant-loop-pair l = record {
  same : weighted l.updates.items l.weights.items ≡ pairs_in (take l.pair-index l.pairs);
  len : length l.updates.items ≡ length l.weights.items;
}
