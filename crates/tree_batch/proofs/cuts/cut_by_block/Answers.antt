-- Proofs of `cut_by_block`, src/cuts.rt.
use Rattle.std.proofs.Common.{◌∙◌, sym, subst, ap, length, take, drop, arith}
use Rattle.std.proofs.lemmas.List.{take-append-drop}
use Rattle.tree_batch.specs.inside.BlockCuts.{AreCutSoFar}
use Rattle.tree_batch.proofs.Decided.{cut_ascends, cut_more, cut_all}
use Rattle.tree_batch.proofs.cuts.cut_by_block.Goals as goal

pub new-requires : goal.new-requires
new-requires c =
    let vertex = c.vertex-block.ensures.value in
    let is = c.in-Some.ensures.2 in
    let so_far = subst (λ ds. AreCutSoFar c.args.updates.now ds c.loop-first.changes.items) is c.loop-first.invariant in
    let whole = sym is ∙ sym (take-append-drop c.cut_length.result c.loop-first.rest) in
    rw c.split_at-cut.ensures.front (cut_ascends c.args.updates.now _ _ (take c.cut_length.result c.loop-first.rest)
    (drop c.cut_length.result c.loop-first.rest) c.loop-first.changes.items so_far whole (rw vertex at c.cut_length.ensures.cut) (rw vertex at c.cut_length.ensures.rest))

pub loop-first-preserved : goal.loop-first-preserved
loop-first-preserved c =
    let is = c.in-Some.ensures.2 in
    let so_far = subst (λ ds. AreCutSoFar c.args.updates.now ds c.loop-first.changes.items) is c.loop-first.invariant in
    let whole = sym is ∙ sym (take-append-drop c.cut_length.result c.loop-first.rest) in
    let vertex = c.vertex-block.ensures.value in
    let more = cut_more c.args.updates.now _ _ (take c.cut_length.result c.loop-first.rest) (drop c.cut_length.result c.loop-first.rest) c.loop-first.changes.items so_far whole
    (rw vertex at c.cut_length.ensures.cut) (rw vertex at c.cut_length.ensures.rest) in
    rw (c.in_ok-push.ensures.items, c.split_at-cut.ensures.back, vertex) (more c.new.result (c.new.ensures.updates ∙ c.split_at-cut.ensures.front)
    (omega (arith, vertex, c.vertex-block.ensures.small)))

pub returns : goal.returns
returns c = cut_all c.args.updates.now c.loop-first.rest c.loop-first.changes.items c.loop-first.invariant (ap length c.in_default.ensures)
