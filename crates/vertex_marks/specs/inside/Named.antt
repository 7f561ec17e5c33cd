-- The vertices of words that are named by their indices.
use Rattle.std.specs.Prelude.{ℕ, ◌*◌, List, [], ◌∷◌, ◌++◌, slice_index}
use Rattle.vertex_sets.specs.inside.Words.{bit_members}

-- the vertices of the bits that are set in the words at these indices
abbrev pub named_members : List ℕ → List ℕ → List ℕ
named_members words [] = []
named_members words (index ∷ indices) = bit_members 64 (64 * index) (slice_index words index) ++ named_members words indices
