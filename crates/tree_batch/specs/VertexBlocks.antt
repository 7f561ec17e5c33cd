-- The blocks of the vertices of a graph, each by its number: that of a vertex is the vertex divided by 64.
use Rattle.std.specs.Prelude.{[], ◌≡◌, ℕ, ℤ, ◌^◌, ◌≤◌, List, ◌∷◌, length}
use Rattle.ascending_lists.specs.Maps.{Rises}
use Rattle.pages.specs.Vertices.{neighbours_of}
use Rattle.vertex_blocks.specs.Blocks.{Block, lists_of, AreBlocks}

-- no list has more neighbours than a graph may have vertices
abbrev pub HaveFew : List (ℕ × List (ℕ × ℤ)) → Type 0
HaveFew [] = Unit {0}
HaveFew (e ∷ es) = (length e.1 ≤ 16777216) × HaveFew es

-- The blocks of the vertices that have neighbours, ascending, with the lists of them.
pub record AreBlocksOf (neighbours : ℕ → List (ℕ × ℤ)) (bs : List (ℕ × Block)) : Type 0 where
  pub map : Rises 0 (2 ^ 18) bs
  pub blocks : AreBlocks bs
  pub lists : (u : ℕ) → neighbours_of u (lists_of bs) ≡ neighbours u
  pub few : HaveFew (lists_of bs)
