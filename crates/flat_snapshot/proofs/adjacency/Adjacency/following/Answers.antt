-- Proofs of `following`, src/adjacency.rt.
use Rattle.std.proofs.Common.{◌≡◌, ◌+◌, ◌*◌, ◌≤◌, ◌^◌, [], ◌∷◌, length, length-append, sym, subst, arith}
use Rattle.vertex_blocks.specs.Blocks.{lists_of}
use Rattle.tree_batch.specs.VertexBlocks.{HaveFew}
use Rattle.flat_snapshot.specs.inside.Chunks.{IsChunkOf}
use Rattle.flat_snapshot.proofs.Chunks.{chunks_made, made_more}
use Rattle.flat_snapshot.proofs.Following.{following_made}
use Rattle.flat_snapshot.proofs.adjacency.Adjacency.following.Goals as goal

pub loop-number-preserved : goal.loop-number-preserved
loop-number-preserved c =
    let es = lists_of c.args.tree.now.entries in
    let old = c.loop-number.chunks.items in
    let chunk = c.in_ok-chunk.field-0 in
    let at : 0 + length old ≡ c.loop-number.number = omega (arith, c.loop-number.invariant.count) in
    rw (c.in_ok-push.ensures.items)
    (record {
      count = omega (arith, length-append old (chunk ∷ []), c.loop-number.invariant.count);
      made = made_more es 0 old chunk c.loop-number.invariant.made (subst (λ k. IsChunkOf es k chunk.value.blocks) (sym at) c.in_ok-chunk.ensures);
    })

pub invariant_of-result : goal.invariant_of-result
invariant_of-result c =
    let bs = c.args.tree.now.entries in
    let cs = c.loop-number.chunks.items in
    let few : length cs ≤ 2 ^ 12 = omega (arith, c.div_ceil-count.ensures, c.loop-number.invariant.count, c.loop-number-test.false, c.loop-number.auto.number-end, c.requires.blocks.count) in
    let enough : c.args.vertices ≤ 4096 * length cs = omega (arith, c.div_ceil-count.ensures, c.loop-number.invariant.count, c.loop-number-test.false, c.loop-number.auto.number-end, c.requires.blocks.count) in (
      few,
      chunks_made (lists_of bs) 0 cs c.loop-number.invariant.made,
      subst HaveFew (sym (following_made c.args.vertices bs cs c.requires.blocks c.loop-number.invariant.made enough few)) c.requires.blocks.few,
    )

pub returns : goal.returns
returns c =
    let bs = c.args.tree.now.entries in
    let cs = c.loop-number.chunks.items in
    following_made c.args.vertices bs cs c.requires.blocks c.loop-number.invariant.made
    (omega (arith, c.div_ceil-count.ensures, c.loop-number.invariant.count, c.loop-number-test.false, c.loop-number.auto.number-end, c.requires.blocks.count))
    (omega (arith, c.div_ceil-count.ensures, c.loop-number.invariant.count, c.loop-number-test.false, c.loop-number.auto.number-end, c.requires.blocks.count))
