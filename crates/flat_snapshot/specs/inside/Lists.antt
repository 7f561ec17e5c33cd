-- Vertices with lists of their neighbours, in blocks.
use Rattle.std.specs.Prelude.{[], ℕ, ℤ, ◌+◌, Option, List, ◌∷◌, ◌++◌, length}
use Rattle.vertex_blocks.specs.Blocks.{Block, vertices_at, numbered_vertices, IsBlock}

-- the vertices of blocks that stand one after another, by their numbers in the graph, where the first is block k
abbrev pub lists_in : ℕ → List (Option Block) → List (ℕ × List (ℕ × ℤ))
lists_in k [] = []
lists_in k (b ∷ bs) = numbered_vertices k (vertices_at b) ++ lists_in (k + 1) bs

-- each of these is a block, where there is one
abbrev pub AreBlocks : List (Option Block) → Type 0
AreBlocks [] = Unit {0}
AreBlocks (b ∷ bs) = IsBlock (vertices_at b) × AreBlocks bs

-- the vertices with the lengths of their lists
abbrev pub degrees_of : List (ℕ × List (ℕ × ℤ)) → List (ℕ × ℕ)
degrees_of [] = []
degrees_of (e ∷ es) = (e.0, length e.1) ∷ degrees_of es
