-- Which vertices are marked.
use Rattle.std.specs.Prelude.{ℕ, ◌*◌, ◌/◌, ◌%◌, ◌==◌, Bool, length, slice_index}
use Rattle.std.specs.Int.{bit_at}
use Rattle.vertex_marks.specs.declared.vertex_marks.VertexMarks.{VertexMarks}

-- whether a vertex is marked
abbrev pub is_marked : VertexMarks → ℕ → Bool
is_marked m v = bit_at (slice_index m.words.items (v / 64)) (v % 64) == 1

-- for how many vertices there is room
abbrev pub room : VertexMarks → ℕ
room m = 64 * length m.words.items
