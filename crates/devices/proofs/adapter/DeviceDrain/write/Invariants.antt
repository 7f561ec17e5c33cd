-- The tries so far were interrupted, and took nothing.
use Rattle.std.proofs.Common.{◌≡◌}
use Rattle.std.specs.Io.KnownBytes.{Keeps}
use Rattle.devices.proofs.adapter.DeviceDrain.write.Given as goal

abbrev pub invariant-loop : goal.invariant-loop
invariant-loop g l = record {
  bytes_written : l.self.bytes_written ≡ l.initial.self.bytes_written;
  contents : Keeps (g.T.Write.contents l.initial.self.inner) (g.T.Write.contents l.self.inner);
}
