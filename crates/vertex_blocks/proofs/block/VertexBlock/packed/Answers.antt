-- Proofs of `packed`, src/block.rt.
use Rattle.std.proofs.Common.{◌++◌, sym, ◌∙◌, ap, append-nil}
use Rattle.pages.specs.Vertices.{neighbours_of}
use Rattle.vertex_blocks.proofs.block.VertexBlock.packed.Goals as goal

pub returns : goal.returns
returns c u lt none =
    let packed = neighbours_of u c.parts.result.0.now in
    sym (c.parts.ensures.lists u lt ∙ ap (λ es. packed ++ es) (c.present.ensures u lt none) ∙ append-nil packed)
