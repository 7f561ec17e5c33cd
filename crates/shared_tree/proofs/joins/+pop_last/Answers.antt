-- Proofs of `pop_last` and its mutually recursive functions, src/joins.rt.
use Rattle.shared_tree.proofs.Rotations.{opened, popped, map_left}
use Rattle.shared_tree.proofs.joins.+pop_last.Goals as goal

pub balance-requires-clause-map : goal.balance-requires-clause-map
balance-requires-clause-map g t c =
    let root = opened c.args.tree _ _ c.in-Some.is c.in_ok-root.ensures in
    let last = popped c.in-Some.root.right _ _ c.in-Some-2.is c.in_ok-pop_last.ensures in
    map_left _ _ _ _ _ _ (rw root.entries at root.map) last.entries
