use Rattle.std.proofs.Common.{◌+◌, length}
use Rattle.std.specs.Option.{is_some}
use Rattle.std.specs.Int.{from_bool}
use Rattle.set_ops.proofs.interleaving.longest_run.Given as goal

abbrev pub decreases-loop-next : goal.decreases-loop-next
decreases-loop-next l = length l.heads + from_bool (is_some l.next) + (length l.others + from_bool (is_some l.bound))
