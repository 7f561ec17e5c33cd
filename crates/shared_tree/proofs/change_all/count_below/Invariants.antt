use Rattle.std.proofs.Common.{◌-◌, ◌^◌, ◌≤◌, length, take, drop}
use Rattle.ascending_lists.specs.Maps.{Rises}
use Rattle.shared_tree.proofs.change_all.count_below.Given as goal

abbrev pub invariant-loop-low : goal.invariant-loop-low
invariant-loop-low g l = record {
  low : l.low ≤ l.high;
  high : l.high ≤ length l.changes;
  below : Rises 0 l.key (take l.low l.changes);
  above : Rises l.key (2 ^ 32) (drop l.high l.changes);
}

abbrev pub decreases-loop-low : goal.decreases-loop-low
decreases-loop-low g l = l.high - l.low
