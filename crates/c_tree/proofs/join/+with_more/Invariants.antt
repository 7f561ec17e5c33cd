use Rattle.std.proofs.Common.{length}
use Rattle.c_tree.proofs.join.+with_more.Given as goal

abbrev pub decreases-with_more : goal.decreases-with_more
decreases-with_more l = length l.view.now.entries
