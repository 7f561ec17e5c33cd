-- Proofs of `put_blocks` and its mutually recursive functions, src/chunk.rt.
use Rattle.std.proofs.Common.{◌-◌, Some, Result, Ok, Err, IfOk, slice_set, subst, arith}
use Rattle.flat_snapshot.specs.inside.Chunks.{ArePut}
use Rattle.flat_snapshot.proofs.Putting.{put_left, put_right, put_between}
use Rattle.flat_snapshot.proofs.chunk.+put_blocks.Goals as goal

-- if one fact is so of `Ok`, so is what follows from it
on_ok : {A E : Type 0} (r : Result A E) (P Q : Type 0) → (P → Q) → IfOk r (λ x. P) → IfOk r (λ x. Q)
on_ok (Ok x) P Q step is = step is
on_ok (Err e) P Q step is = tt

pub returns-then-number-first : goal.returns-then-number-first
returns-then-number-first t c =
    let k = c.in-Some in
    on_ok c.put_blocks.result _ _
    (put_right c.args.tree.now k.below.now k.number k.block.now k.above.now k.ensures c.args.first c.args.places.now c.put_blocks.new.places c.if-number-first.true)
    c.put_blocks.ensures

pub returns-then-number-first-ge-CHUNK_BLOCKS : goal.returns-then-number-first-ge-CHUNK_BLOCKS
returns-then-number-first-ge-CHUNK_BLOCKS t c =
    let k = c.in-Some in
    let call = c.put_blocks-then-number-first-ge-CHUNK_BLOCKS in
    on_ok call.result _ _
    (put_left c.args.tree.now k.below.now k.number k.block.now k.above.now k.ensures c.args.first c.args.places.now call.new.places
    (omega (arith, c.if-number-first.false, c.if-number-first-ge-CHUNK_BLOCKS.true)))
    call.ensures

pub returns : goal.returns
returns t c =
    let k = c.in-Some in
    let old = c.args.places.now in
    let middle = c.put_blocks-2.new.places in
    on_ok c.put_blocks-3.result _ _
    (put_between c.args.tree.now k.below.now k.number k.block.now k.above.now k.ensures c.args.first old c.put_blocks-3.new.places middle
    (omega (arith, c.if-number-first.false)) (omega (arith, c.if-number-first.false, c.if-number-first-ge-CHUNK_BLOCKS.false)) c.requires.count c.in_ok-put_blocks.ensures)
    (subst (λ b. IfOk c.put_blocks-3.result (λ x. ArePut k.above.now.entries c.args.first (slice_set middle (k.number - c.args.first) (Some b)) c.put_blocks-3.new.places)) c.in_ok-share.ensures c.put_blocks-3.ensures)
