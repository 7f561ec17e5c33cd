-- Proofs of `len` and its mutually recursive functions, src/tree.rt.
use Rattle.std.proofs.Common.{arith}
use Rattle.shared_tree.proofs.Forks.{fork_length, root_room}
use Rattle.shared_tree.proofs.tree.Tree.+len.Goals as goal

pub returns-in-Some-clause-bounded : goal.returns-in-Some-clause-bounded
returns-in-Some-clause-bounded g t c =
    omega (arith, fork_length _ _ _ _ _ c.in-Some.ensures, root_room _ _ _ _ _ c.in-Some.ensures)
