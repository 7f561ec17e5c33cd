use Rattle.std.proofs.Common.{◌≡◌, ◌≤◌, length, map, take, vec_len}
use Rattle.std.specs.Vec.{vec_capacity}
use Rattle.edge_updates.specs.Updates.{unit_pair}
use Rattle.edge_updates.specs.Updates.{decided_weight}
use Rattle.tree_batch.specs.Edge.{Ends, decision}
use Rattle.tree_batch.proofs.updates.unsorted.Given as goal

abbrev pub invariant-loop-index : goal.invariant-loop-index
invariant-loop-index l = record {
  same : (p : Ends) → decided_weight (map unit_pair l.updates.items) p ≡ decision (take l.index l.batch) p;
  len : vec_len l.updates ≤ l.index;
  room : length l.batch ≤ vec_capacity l.updates;
}
