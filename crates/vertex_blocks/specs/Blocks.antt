-- Blocks of 64 vertices with the lists of their neighbours, each with a weight.
use Rattle.std.specs.Prelude.{[], ℕ, ℤ, ◌+◌, ◌*◌, ◌<◌, Option, Some, None, List, ◌∷◌, ◌++◌, length}
use Rattle.std.specs.Map.{keys_of}
use Rattle.ascending_lists.specs.Ascending.{AscendsFrom}
use Rattle.ascending_lists.specs.Maps.{Rises}

-- vertices by their numbers in a block, each with its neighbours and their weights
abbrev pub Block : Type 0
Block = List (ℕ × List (ℕ × ℤ))

-- a list of entries, of which there are some, whose neighbours ascend
pub record IsNeighbourList (xs : List (ℕ × ℤ)) : Type 0 where
  pub some : 0 < length xs
  pub ascends : AscendsFrom 0 (keys_of xs)

-- so is the list of each vertex
abbrev pub AreNeighbourLists : Block → Type 0
AreNeighbourLists [] = Unit {0}
AreNeighbourLists (e ∷ es) = IsNeighbourList e.1 × AreNeighbourLists es

-- vertices below 64, ascending, each with neighbours that ascend
pub record IsBlock (es : Block) : Type 0 where
  pub map : Rises 0 64 es
  pub lists : AreNeighbourLists es

-- how many neighbours all vertices have together
abbrev pub edge_total : Block → ℕ
edge_total [] = 0
edge_total (e ∷ es) = length e.1 + edge_total es

-- the vertices of a block, or none where there is no block
abbrev pub vertices_at : Option Block → Block
vertices_at None = []
vertices_at (Some b) = b

-- the vertices of the block k by their numbers in a graph
abbrev pub numbered_vertices : ℕ → Block → List (ℕ × List (ℕ × ℤ))
numbered_vertices k [] = []
numbered_vertices k (e ∷ es) = (64 * k + e.0, e.1) ∷ numbered_vertices k es

-- the vertices of blocks by their numbers in a graph
abbrev pub lists_of : List (ℕ × Block) → List (ℕ × List (ℕ × ℤ))
lists_of [] = []
lists_of (b ∷ bs) = numbered_vertices b.0 b.1 ++ lists_of bs

-- each of these is a block with a vertex
abbrev pub AreBlocks : List (ℕ × Block) → Type 0
AreBlocks [] = Unit {0}
AreBlocks (b ∷ bs) = IsBlock b.1 × (0 < length b.1) × AreBlocks bs
