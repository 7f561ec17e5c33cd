-- What is written so far has been taken, and no write has failed.
use Rattle.std.proofs.Common.{◌≡◌, ◌++◌, ◌≤◌, ◌-◌, length, take}
use Rattle.devices.proofs.traits.write_all.Given as goal

abbrev pub invariant-loop-written : goal.invariant-loop-written
invariant-loop-written g l = record {
  within : l.written ≤ length l.bytes;
  bytes_written : g.W.Drain.bytes_written l.writer ≡ g.W.Drain.bytes_written l.initial.writer ++ take l.written l.bytes;
  no_failure : g.W.Drain.failures l.writer ≡ g.W.Drain.failures l.initial.writer;
}

abbrev pub decreases-loop-written : goal.decreases-loop-written
decreases-loop-written g l = length l.bytes - l.written
