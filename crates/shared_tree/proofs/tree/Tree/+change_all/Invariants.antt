use Rattle.std.proofs.Common.{◌+◌, length}
use Rattle.shared_tree.proofs.tree.Tree.+change_all.Given as goal

abbrev pub decreases-change_all : goal.decreases-change_all
decreases-change_all g l = length l.self.now.entries + length l.changes.now
