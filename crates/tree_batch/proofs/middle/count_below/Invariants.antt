use Rattle.std.proofs.Common.{◌-◌, ◌≤◌, length, take}
use Rattle.tree_batch.specs.inside.BlockCuts.{AreBelow}
use Rattle.tree_batch.proofs.middle.count_below.Given as goal

abbrev pub invariant-loop-count : goal.invariant-loop-count
invariant-loop-count l = record {
  bounded : l.count ≤ length l.updates;
  below : AreBelow l.block (take l.count l.updates);
}

abbrev pub decreases-loop-count : goal.decreases-loop-count
decreases-loop-count l = length l.updates - l.count
