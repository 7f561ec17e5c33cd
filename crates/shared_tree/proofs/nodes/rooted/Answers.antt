-- Proofs of `rooted`, src/nodes.rt.
use Rattle.std.proofs.Common.{◌≡◌, ◌+◌, max}
use Rattle.shared_tree.proofs.Forks.{fork_made}
use Rattle.shared_tree.proofs.nodes.rooted.Goals as goal

pub of-requires : goal.of-requires
of-requires g c =
    let node = c.args.node.value in
    let left = rw c.deref.ensures at c.depth.ensures in
    let right = rw c.deref-2.ensures at c.depth-2.ensures in
    let deeper : c.max-depth.result + 1 ≡ max node.left.depth node.right.depth + 1 = cc (left.depth, right.depth) in
    fork_made node.left c.args.key node.value node.right _ deeper c.requires.map c.requires.balanced (rw left.depth at left.shallow) (rw right.depth at right.shallow) (rw left.depth at left.room)
    (rw right.depth at right.room)
