-- Proofs of `edge_count`, src/block.rt.
use Rattle.vertex_blocks.proofs.Sums.{joined_block}
use Rattle.vertex_blocks.proofs.block.VertexBlock.edge_count.Goals as goal

pub returns-clause-block : goal.returns-clause-block
returns-clause-block c =
    let ok = c.self.invariant in
    rw (← c.self.view_is) (joined_block _ _ ok.page ok.long ok.apart)
