use Rattle.std.proofs.Common.{◌+◌, ◌*◌}
use Rattle.set_ops.proofs.forked.+forked.Given as goal

abbrev pub decreases-in_two-join+arg2 : goal.decreases-in_two-join+arg2
decreases-in_two-join+arg2 g l = 3 * l.forks

abbrev pub decreases-in_two-join+arg3 : goal.decreases-in_two-join+arg3
decreases-in_two-join+arg3 g l = 3 * l.forks

abbrev pub decreases-in_two : goal.decreases-in_two
decreases-in_two g l = 3 * l.forking.now.forks + 1

abbrev pub decreases-combine_forked : goal.decreases-combine_forked
decreases-combine_forked g l = 3 * l.forking.now.forks + 2
