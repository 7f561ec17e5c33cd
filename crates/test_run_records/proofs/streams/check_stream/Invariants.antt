use Rattle.std.proofs.Common.{◌≡◌, IfSome}
use Rattle.std.specs.Arc.{arc_value}
use Rattle.test_run_records.proofs.streams.check_stream.Given as goal

-- the record is of the newest graph
abbrev pub invariant-edits : goal.invariant-edits
invariant-edits l = IfSome l.former (λ r. arc_value r.graph ≡ l.graph)
