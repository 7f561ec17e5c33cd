use Rattle.std.proofs.Common.{length}
use Rattle.set_ops.proofs.with_list.+combine_with_list.Given as goal

abbrev pub decreases-combine_with_list : goal.decreases-combine_with_list
decreases-combine_with_list l = length l.first.now.entries
