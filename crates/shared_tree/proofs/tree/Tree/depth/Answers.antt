-- Proofs of `depth`, src/tree.rt.
use Rattle.std.proofs.Common.{arith}
use Rattle.shared_tree.proofs.Forks.{fork_depth}
use Rattle.shared_tree.proofs.tree.Tree.depth.Goals as goal

pub returns-in-Fork-clause-bounded : goal.returns-in-Fork-clause-bounded
returns-in-Fork-clause-bounded g c =
    let balanced = rw c.in-Fork.is at c.self.invariant in
    omega (arith, fork_depth _ _ _ _ _ balanced)
