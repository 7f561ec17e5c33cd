-- Neighbours that are still to come, in their two forms.
use Rattle.std.specs.Prelude.{ℕ, ℤ, List}
use Rattle.vertex_blocks.specs.declared.neighbour_iter.WalkForm.{WalkForm}
use Rattle.vertex_blocks.specs.declared.neighbour_iter.WalkForm.TheVariants.{Packed, Chunked}

-- those that are to come, in whichever form
abbrev pub coming : WalkForm → List (ℕ × ℤ)
coming (Packed walk) = walk
coming (Chunked walk) = walk
