-- Proofs of `block_at`, src/adjacency.rt.
use Rattle.std.proofs.Common.{◌≡◌, ◌/◌, ◌%◌, ◌<◌, ◌≤◌, length, get_or, sym, ◌∙◌, ap, arith}
use Rattle.pages.specs.Vertices.{neighbours_of}
use Rattle.vertex_blocks.specs.Blocks.{vertices_at}
use Rattle.flat_snapshot.proofs.Chunks.{in_chunk, after_chunks}
use Rattle.flat_snapshot.proofs.adjacency.Adjacency.block_at.Goals as goal

pub returns-then-index-len : goal.returns-then-index-len
returns-then-index-len c = λ u at.
    let a = c.self.inside in
    let past : length a.chunks.items ≤ u / 4096 = omega (arith, at, c.if-index-len.true, c.len.ensures) in
    rw (← c.self.view_is) (sym (after_chunks u a.chunks.items c.self.invariant.1 past))

pub returns : goal.returns
returns c = λ u at.
    let a = c.self.inside in
    let chunk = c.index.result.now in
    let block = c.index-deref-number.result in
    let there : u / 4096 < length a.chunks.items = omega (arith, at, c.if-index-len.false, c.len.ensures) in
    let found = in_chunk u a.chunks.items chunk block c.self.invariant.1 there in
    let in_place : get_or (get_or a.chunks.items (u / 4096) chunk).value.blocks (u / 64 % 64) block ≡ get_or c.deref.result.now.blocks (c.args.number % 64) block =
    ap (λ k. get_or (get_or a.chunks.items (u / 4096) chunk).value.blocks (k % 64) block) at
    ∙ ap (λ k. get_or (get_or a.chunks.items k chunk).value.blocks (c.args.number % 64) block) (omega (arith, at))
    ∙ ap (λ it. get_or it.value.blocks (c.args.number % 64) block) (sym c.index.ensures)
    ∙ ap (λ it. get_or it.blocks (c.args.number % 64) block) (sym c.deref.ensures) in
    rw (← c.self.view_is, c.as_ref.ensures.value) (sym (found ∙ ap (λ o. neighbours_of (u % 64) (vertices_at o)) in_place))
