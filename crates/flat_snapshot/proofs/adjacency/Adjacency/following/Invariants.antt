use Rattle.std.proofs.Common.{◌≡◌, length}
use Rattle.vertex_blocks.specs.Blocks.{lists_of}
use Rattle.flat_snapshot.specs.inside.Chunks.{AreChunksOf}
use Rattle.flat_snapshot.proofs.adjacency.Adjacency.following.Given as goal

abbrev pub invariant-loop-number : goal.invariant-loop-number
invariant-loop-number l = record {
  count : length l.chunks.items ≡ l.number;
  made : AreChunksOf (lists_of l.tree.entries) 0 l.chunks.items;
}
