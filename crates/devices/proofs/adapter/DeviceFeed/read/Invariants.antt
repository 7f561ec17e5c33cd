-- The tries so far were interrupted, and gave nothing.
use Rattle.std.proofs.Common.{◌≡◌, ◌≤◌}
use Rattle.std.specs.Io.KnownBytes.{Keeps}
use Rattle.devices.proofs.adapter.DeviceFeed.read.Given as goal

abbrev pub invariant-loop-self : goal.invariant-loop-self
invariant-loop-self g l = record {
  bytes_read : l.self.bytes_read ≡ l.initial.self.bytes_read;
  is_ended : l.self.is_ended ≡ l.initial.self.is_ended;
  reads_left : l.self.reads_left ≤ l.initial.self.reads_left;
  remaining : Keeps (g.T.Read.remaining l.initial.self.inner) (g.T.Read.remaining l.self.inner);
}

abbrev pub decreases-loop-self : goal.decreases-loop-self
decreases-loop-self g l = l.self.reads_left
