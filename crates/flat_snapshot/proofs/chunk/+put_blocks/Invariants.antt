use Rattle.std.proofs.Common.{length}
use Rattle.flat_snapshot.proofs.chunk.+put_blocks.Given as goal

abbrev pub decreases-put_blocks : goal.decreases-put_blocks
decreases-put_blocks l = length l.tree.now.entries
