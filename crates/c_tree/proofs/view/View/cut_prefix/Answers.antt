-- Proofs of `cut_prefix`, src/cut.rt.
use Rattle.c_tree.proofs.Cuts.{front_ascends, front_plain, back_ascends, back_plain}
use Rattle.c_tree.proofs.view.View.cut_prefix.Goals as goal

pub of_prefix-requires-clause-ascending : goal.of_prefix-requires-clause-ascending
of_prefix-requires-clause-ascending c =
    let s = c.args.self.now in
    let t = c.in_ok-cut.cut in
    front_ascends s.chunk_size c.args.key s.entries c.prefix.result.now.entries c.prefix.ensures.entries c.requires c.prefix.ensures.ascending t.below.entries t.above.entries t.found
    c.in_ok-cut.ensures

pub of_prefix-requires-clause-no_head : goal.of_prefix-requires-clause-no_head
of_prefix-requires-clause-no_head c =
    let s = c.args.self.now in
    let t = c.in_ok-cut.cut in
    rw c.chunk_size-chunk_size.ensures
    (front_plain s.chunk_size c.args.key s.entries c.prefix.result.now.entries c.prefix.ensures.entries c.requires c.prefix.ensures.ascending t.below.entries t.above.entries t.found
    c.in_ok-cut.ensures)

pub of_prefix-requires-2-clause-ascending : goal.of_prefix-requires-2-clause-ascending
of_prefix-requires-2-clause-ascending c =
    let s = c.args.self.now in
    let t = c.in_ok-cut.cut in
    back_ascends s.chunk_size c.args.key s.entries c.prefix.result.now.entries c.prefix.ensures.entries c.requires c.prefix.ensures.ascending t.below.entries t.above.entries t.found
    c.in_ok-cut.ensures

pub of_prefix-requires-2-clause-no_head : goal.of_prefix-requires-2-clause-no_head
of_prefix-requires-2-clause-no_head c =
    let s = c.args.self.now in
    let t = c.in_ok-cut.cut in
    rw c.chunk_size-chunk_size.ensures
    (back_plain s.chunk_size c.args.key s.entries c.prefix.result.now.entries c.prefix.ensures.entries c.requires c.prefix.ensures.ascending t.below.entries t.above.entries t.found
    c.in_ok-cut.ensures)
