use Rattle.std.proofs.Common.{length}
use Rattle.c_tree.proofs.view.View.+cut.Given as goal

abbrev pub decreases-cut : goal.decreases-cut
decreases-cut l = length l.self.now.entries
