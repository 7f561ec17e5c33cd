use Rattle.std.proofs.Common.{◌≤◌}
use Rattle.refusal_text.proofs.cause.without_white_end.Given as goal

abbrev pub invariant-bytes : goal.invariant-bytes
invariant-bytes l = l.end ≤ l.i
