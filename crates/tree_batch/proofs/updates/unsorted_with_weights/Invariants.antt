use Rattle.std.proofs.Common.{◌≡◌, ◌≤◌, length, take, vec_len}
use Rattle.std.specs.Vec.{vec_capacity}
use Rattle.edge_updates.specs.Updates.{decided_weight}
use Rattle.edge_updates.specs.WeightedUpdates.{pairs_in}
use Rattle.tree_batch.specs.Edge.{Ends, decision}
use Rattle.tree_batch.proofs.updates.unsorted_with_weights.Given as goal

abbrev pub invariant-loop-index : goal.invariant-loop-index
invariant-loop-index l = record {
  same : (p : Ends) → decided_weight (pairs_in l.updates.items) p ≡ decision (take l.index l.batch) p;
  len : vec_len l.updates ≤ l.index;
  room : length l.batch ≤ vec_capacity l.updates;
}
