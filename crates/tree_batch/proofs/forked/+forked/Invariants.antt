use Rattle.std.proofs.Common.{◌+◌, ◌*◌}
use Rattle.tree_batch.proofs.forked.+forked.Given as goal

abbrev pub decreases-in_two-join+arg2 : goal.decreases-in_two-join+arg2
decreases-in_two-join+arg2 g l = 4 * l.forks

abbrev pub decreases-in_two-join+arg3 : goal.decreases-in_two-join+arg3
decreases-in_two-join+arg3 g l = 4 * l.forks

abbrev pub decreases-in_two : goal.decreases-in_two
decreases-in_two g l = 4 * l.forking.now.forks + 1

abbrev pub decreases-sides : goal.decreases-sides
decreases-sides g l = 4 * l.forking.now.forks + 2

abbrev pub decreases-change_forked : goal.decreases-change_forked
decreases-change_forked g l = 4 * l.forking.now.forks + 3
