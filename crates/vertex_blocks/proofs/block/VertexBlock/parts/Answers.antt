-- Proofs of `parts`, src/block.rt.
use Rattle.vertex_blocks.proofs.Sums.{made_of}
use Rattle.vertex_blocks.proofs.block.VertexBlock.parts.Goals as goal

pub returns : goal.returns
returns c = rw (← c.self.view_is, c.deref-parts.ensures) (made_of _ _ _ c.self.invariant)
