-- Proofs of `of`, src/chunk.rt.
use Rattle.std.proofs.Common.{◌≡◌, ℕ, ◌+◌, ◌*◌, ◌<◌, ◌∙◌, None, get_or, length, ap, subst, sym, arith}
use Rattle.ascending_lists.specs.Maps.{lookup}
use Rattle.vertex_blocks.specs.Blocks.{lists_of}
use Rattle.flat_snapshot.specs.inside.Chunks.{IsChunkOf}
use Rattle.flat_snapshot.proofs.Putting.{put_in_empty}
use Rattle.flat_snapshot.proofs.Following.{found_chunk}
use Rattle.flat_snapshot.proofs.chunk.Chunk.of.Goals as goal

pub returns : goal.returns
returns c =
    let bs = c.args.tree.now.entries in
    let slots = c.put_blocks.new.places in
    let full : length slots ≡ 64 = omega (arith, c.in_ok-put_blocks.ensures.count, c.default-blocks.ensures.long) in
    let none : (i : ℕ) → i < 64 → get_or c.default-blocks.result i None ≡ None = λ i lt. c.default-blocks.ensures.at i None lt in
    let made : IsChunkOf (lists_of bs) c.args.number slots =
    found_chunk c.args.number bs slots c.requires.map c.requires.blocks full
    (λ i lt. put_in_empty bs (c.args.number * 64) c.default-blocks.result slots c.in_ok-put_blocks.ensures none i lt ∙ ap (λ k. lookup (k + i) bs) (omega arith)) in
    subst (λ it. IsChunkOf (lists_of bs) c.args.number it.blocks) (sym c.in_ok-new.ensures.ok) made
