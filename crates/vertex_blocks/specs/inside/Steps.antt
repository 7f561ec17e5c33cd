-- Blocks that are built up vertex by vertex, each list in a page or as a set.
use Rattle.std.specs.Prelude.{◌≡◌, ℕ, ℤ, ◌<◌, ◌⊎◌, Option, List, [], ◌++◌}
use Rattle.edge_updates.specs.declared.edge_update.EdgeUpdate.{EdgeUpdate}
use Rattle.pages.specs.Updates.{updated, updates_of}
use Rattle.pages.specs.Vertices.{neighbours_of}
use Rattle.pages.specs.inside.Built.{entry_of, built}
use Rattle.vertex_blocks.specs.Blocks.{Block, vertices_at}

-- The vertices below a number have the lists that f gives.
pub record IsBuilt (f : ℕ → List (ℕ × ℤ)) (low : ℕ) (p s : Block) : Type 0 where
  pub small : ℕ → List (ℕ × ℤ)
  pub large : ℕ → List (ℕ × ℤ)
  pub page : p ≡ built small low
  pub long : s ≡ built large low
  pub lists : (u : ℕ) → u < low → small u ++ large u ≡ f u
  pub apart : (u : ℕ) → u < low → (small u ≡ []) ⊎ (large u ≡ [])

-- A list came after the others at a vertex, if it has an element.
pub record IsPut (u : ℕ) (xs : List (ℕ × ℤ)) (p s p' s' : Block) : Type 0 where
  pub small : List (ℕ × ℤ)
  pub large : List (ℕ × ℤ)
  pub page : p' ≡ p ++ entry_of u small
  pub long : s' ≡ s ++ entry_of u large
  pub list : small ++ large ≡ xs
  pub apart : (small ≡ []) ⊎ (large ≡ [])

-- the list of a vertex after updates
abbrev pub list_after : List (EdgeUpdate × ℤ) → Option Block → ℕ → List (ℕ × ℤ)
list_after us old u = updated (neighbours_of u (vertices_at old)) (updates_of u us)
