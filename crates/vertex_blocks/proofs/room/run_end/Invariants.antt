use Rattle.std.proofs.Common.{◌-◌, ◌<◌, ◌≤◌, length}
use Rattle.vertex_blocks.proofs.room.run_end.Given as goal

abbrev pub invariant-loop-end : goal.invariant-loop-end
invariant-loop-end l = record {
  order : l.start < l.end;
  within : l.end ≤ length l.updates;
}

abbrev pub decreases-loop-end : goal.decreases-loop-end
decreases-loop-end l = length l.updates - l.end
