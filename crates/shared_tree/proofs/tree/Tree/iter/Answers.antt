-- Proofs of `iter`, src/iter.rt.
use Rattle.shared_tree.proofs.Stacks.{below_room}
use Rattle.shared_tree.proofs.tree.Tree.iter.Goals as goal

pub returns-clause-bounded : goal.returns-clause-bounded
returns-clause-bounded g c = below_room c.link-link.result.now c.args.self.now c.link-link.ensures
