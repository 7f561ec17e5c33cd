-- Beside `VertexBlocks`: definitions that no public contract cites.
use Rattle.std.specs.Prelude.{ℕ, ◌^◌, List, ◌≡◌, length, ◌<◌}
use Rattle.ascending_lists.specs.Maps.{Rises}
use Rattle.vertex_blocks.specs.Blocks.{Block, AreBlocks, lists_of, IsBlock}
use Rattle.tree_batch.specs.inside.Digraph.{digraph}
use Rattle.tree_batch.specs.Digraph.{IsDigraph}
use Rattle.tree_batch.specs.Neighbours.{edges_of}
use Rattle.tree_batch.specs.inside.Neighbours.{weight_between}

-- blocks of vertices below 2 ^ 24, ascending
pub record AreGraphBlocks (bs : List (ℕ × Block)) : Type 0 where
  pub map : Rises 0 (2 ^ 18) bs
  pub blocks : AreBlocks bs

-- The neighbours along the edges of a graph of n vertices and those against them, with m edges.
pub record IsGraph (n m : ℕ) (outgoing incoming : List (ℕ × Block)) : Type 0 where
  pub graph : IsDigraph (digraph n (edges_of (lists_of outgoing)))
  pub out : AreGraphBlocks outgoing
  pub into : AreGraphBlocks incoming
  pub converse : (u v : ℕ) → weight_between (lists_of incoming) (v, u) ≡ weight_between (lists_of outgoing) (u, v)
  pub count : m ≡ length (edges_of (lists_of outgoing))

-- what is left of the block k, and blocks after it
pub record AreBlocksLeft (k : ℕ) (left : Block) (bs : List (ℕ × Block)) : Type 0 where
  pub number : k < 2 ^ 18
  pub vertices : IsBlock left
  pub later : AreGraphBlocks bs
