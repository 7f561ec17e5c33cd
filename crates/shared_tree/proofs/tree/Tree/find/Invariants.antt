use Rattle.std.proofs.Common.{◌≡◌}
use Rattle.ascending_lists.specs.Maps.{lookup}
use Rattle.shared_tree.proofs.tree.Tree.find.Given as goal

abbrev pub invariant-loop-left : goal.invariant-loop-left
invariant-loop-left g l = lookup l.key l.tree.entries ≡ lookup l.key l.self.entries
