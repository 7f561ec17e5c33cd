-- Lists of neighbours in their two forms.
use Rattle.std.specs.Prelude.{ℕ, ℤ, List}
use Rattle.vertex_blocks.specs.declared.neighbour_set.NeighbourForm.{NeighbourForm}
use Rattle.vertex_blocks.specs.declared.neighbour_set.NeighbourForm.TheVariants.{Packed, Chunked}

-- the list, in whichever form
abbrev pub listed : NeighbourForm → List (ℕ × ℤ)
listed (Packed list) = list
listed (Chunked set) = set.now.entries
