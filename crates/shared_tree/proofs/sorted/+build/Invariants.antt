use Rattle.shared_tree.proofs.sorted.+build.Given as goal

abbrev pub decreases-build : goal.decreases-build
decreases-build g l = l.count
