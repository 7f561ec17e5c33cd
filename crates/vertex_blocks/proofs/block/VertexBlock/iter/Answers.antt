-- Proofs of `iter`, src/block.rt.
use Rattle.vertex_blocks.proofs.Sums.{joined_block}
use Rattle.vertex_blocks.proofs.block.VertexBlock.iter.Goals as goal

pub new-requires : goal.new-requires
new-requires c =
    let ok = c.self.invariant in
    rw (← c.self.view_is) (joined_block _ _ ok.page ok.long ok.apart)

pub returns-clause-block : goal.returns-clause-block
returns-clause-block c =
    let ok = c.self.invariant in
    rw (← c.self.view_is) (joined_block _ _ ok.page ok.long ok.apart)
