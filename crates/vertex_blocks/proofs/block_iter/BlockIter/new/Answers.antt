-- Proofs of `new`, src/block_iter.rt.
use Rattle.vertex_blocks.proofs.Vertices.{from_first}
use Rattle.vertex_blocks.proofs.block_iter.BlockIter.new.Goals as goal

pub returns : goal.returns
returns c = from_first c.args.block.now
