use Rattle.std.proofs.Common.{◌≡◌, ◌++◌, length}
use Rattle.vertex_blocks.specs.Blocks.{vertices_at, numbered_vertices, lists_of}
use Rattle.tree_batch.specs.inside.VertexBlocks.{AreBlocksLeft}
use Rattle.tree_batch.proofs.vertices.AdjacencyIterIterator.next.Given as goal

abbrev pub invariant-rounds : goal.invariant-rounds
invariant-rounds l = record {
  coming : numbered_vertices l.self-inside.number (vertices_at l.self-inside.vertices) ++ lists_of l.self-inside.rest ≡ l.fn.self;
  left : AreBlocksLeft l.self-inside.number (vertices_at l.self-inside.vertices) l.self-inside.rest;
}

abbrev pub decreases-rounds : goal.decreases-rounds
decreases-rounds l = length l.self-inside.rest
