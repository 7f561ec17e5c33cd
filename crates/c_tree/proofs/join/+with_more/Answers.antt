-- Proofs of `with_more` and its mutually recursive functions, src/join.rt.
use Rattle.std.proofs.Common.{◌≡◌, ◌++◌, to_z, of_z, w64, arith, rules}
use Rattle.c_tree.specs.Chunks.{IsSetOf}
use Rattle.c_tree.proofs.Rooted.{more_over, more_join, root_smaller}
use Rattle.c_tree.proofs.join.+with_more.Goals as goal

pub with_more-requires : goal.with_more-requires
with_more-requires t c =
    let v = c.args.view.now in
    let root = c.in-Some.ensures in
    let smaller = (root_smaller v c.in-Some.left c.in-Some.key c.in-Some.weight c.in-Some.right root).1 in (
      omega (arith, smaller),
      (
        more_over v c.in-Some.left c.in-Some.key c.in-Some.weight c.in-Some.right root c.args.base c.args.more.now.entries c.requires.over,
        rw root.right_size c.requires.no_head,
      ),
    )

pub join-requires-clause-ascending : goal.join-requires-clause-ascending
join-requires-clause-ascending t c =
    let v = c.args.view.now in
    let left : c.in_ok-share.field-0 ≡ c.in-Some.left = search rules in
    let right : IsSetOf (c.in-Some.right.entries ++ c.args.more.now.entries) c.in-Some.right.chunk_size c.in_ok-right.right = search rules in
    let round : to_z w64 (of_z w64 c.in-Some.weight) ≡ c.in-Some.weight = search rules in
    rw (left, right.entries, round) (more_join v c.in-Some.left c.in-Some.key c.in-Some.weight c.in-Some.right c.in-Some.ensures c.args.base c.args.more.now.entries c.requires.over)
