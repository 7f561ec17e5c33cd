-- Proofs of `build` and its mutually recursive functions, src/sorted.rt.
use Rattle.std.proofs.Common.{◌-◌, ◌/◌, ◌∙◌, arith, rules}
use Rattle.shared_tree.proofs.Ascending.{map_rest, taken, map_taken}
use Rattle.shared_tree.proofs.Halves.{halves_near, halves_depth, max_swap}
use Rattle.shared_tree.proofs.sorted.+build.Goals as goal

pub build-requires-2 : goal.build-requires-2
build-requires-2 g t c κs within =
    (omega arith, (search rules, (omega (arith, c.in_ok-right.ensures.left, c.take_last-key.ensures.len), map_rest _ _ _ _ _ c.requires.map c.in_ok-right.ensures.taken c.take_last-key.ensures.items)))

pub fork_new-requires-clause-map : goal.fork_new-requires-clause-map
fork_new-requires-clause-map g t c =
    map_taken _ _ _ _ _ _ _ c.requires.map c.in_ok-right.ensures.taken c.take_last-key.ensures.items c.in_ok-left.ensures.taken

pub fork_new-requires-clause-balanced : goal.fork_new-requires-clause-balanced
fork_new-requires-clause-balanced g t c =
    let near = halves_near (c.args.count / 2) (c.args.count - c.args.count / 2 - 1) _ _ (omega arith) (omega arith) c.in_ok-right.ensures.deep c.in_ok-left.ensures.deep in
    (near.1, near.0)

pub returns-clause-taken : goal.returns-clause-taken
returns-clause-taken g t c =
    rw c.in_ok-fork_new.ensures.entries (taken _ _ _ _ _ _ _ c.in_ok-right.ensures.taken c.take_last-key.ensures.items c.in_ok-left.ensures.taken)

pub returns-clause-deep : goal.returns-clause-deep
returns-clause-deep g t c =
    halves_depth c.args.count _ (c.args.count / 2) (c.args.count - c.args.count / 2 - 1) _ _ (omega arith) (c.in_ok-fork_new.ensures.depth ∙ max_swap _ _) (omega arith)
    (omega arith) c.in_ok-right.ensures.deep c.in_ok-left.ensures.deep
