use Rattle.std.proofs.Common.{◌-◌, ◌≤◌, length}
use Rattle.vertex_blocks.proofs.room.page_updates.Given as goal

abbrev pub invariant-loop-start : goal.invariant-loop-start
invariant-loop-start l = l.start ≤ length l.updates

abbrev pub decreases-loop-start : goal.decreases-loop-start
decreases-loop-start l = length l.updates - l.start
