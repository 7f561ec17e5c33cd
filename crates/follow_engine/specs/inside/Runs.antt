-- Runs of recorded changes between marked vertices.
use Rattle.std.specs.Prelude.{not, List}
use Rattle.std.specs.List.{filter}
use Rattle.vectors.specs.declared.changes.EntryChange.{EntryChange}
use Rattle.vertex_marks.specs.Marks.{is_marked}
use Rattle.vertex_marks.specs.declared.vertex_marks.VertexMarks.{VertexMarks}

-- those of some changes that are at no marked vertex
abbrev pub unmarked : VertexMarks → List EntryChange → List EntryChange
unmarked marks cs = filter (λ c. not (is_marked marks c.vertex)) cs
