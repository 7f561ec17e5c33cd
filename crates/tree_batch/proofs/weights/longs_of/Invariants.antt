use Rattle.std.proofs.Common.{◌≡◌, ◌≤◌, length, take, vec_len}
use Rattle.std.specs.Vec.{vec_capacity}
use Rattle.tree_batch.proofs.weights.longs_of.Given as goal

abbrev pub invariant-loop-weight : goal.invariant-loop-weight
invariant-loop-weight l = record {
  same : l.longs.items ≡ take l.weight-index l.weights.items;
  len : vec_len l.longs ≤ l.weight-index;
  room : length l.weights.items ≤ vec_capacity l.longs;
}
