-- What updates make of a block.
use Rattle.std.specs.Prelude.{◌≡◌, ℕ, ℤ, ◌<◌, Option, List, length, IfSome}
use Rattle.edge_updates.specs.declared.edge_update.EdgeUpdate.{EdgeUpdate}
use Rattle.pages.specs.Updates.{updated, updates_of}
use Rattle.pages.specs.Vertices.{neighbours_of}
use Rattle.vertex_blocks.specs.Blocks.{Block, IsBlock, vertices_at}

-- updates of the vertices of a block with their weights, and the chunk size of a set that begins
pub record BlockChange : Type 0 where
  pub updates : List (EdgeUpdate × ℤ)
  pub chunk_size : ℕ

-- The block new is old with the lists that updates make of the old ones, and there is none where no vertex is left.
pub record IsBlockAfter (c : BlockChange) (old new : Option Block) : Type 0 where
  pub lists : (u : ℕ) → u < 64 → neighbours_of u (vertices_at new) ≡ updated (neighbours_of u (vertices_at old)) (updates_of u c.updates)
  pub block : IfSome new IsBlock
  pub some : IfSome new (λ b. 0 < length b)
