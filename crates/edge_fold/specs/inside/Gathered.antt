-- Beside `Gathered`: definitions that no public contract cites.
use Rattle.std.specs.Prelude.{[], ℕ, pos, if◌then◌else◌, List, ◌∷◌, slice_index_or}
use Rattle.vectors.specs.declared.changes.EntryChange.{EntryChange}
use Rattle.vertex_marks.specs.Marks.{is_marked}
use Rattle.edge_fold.specs.declared.accumulator.Accumulator.{Accumulator}

-- what an accumulator has at a vertex
abbrev pub number_at : Accumulator → ℕ → List EntryChange
number_at a v = if is_marked a.marks v then record { vertex = v; number = slice_index_or a.values.items v (pos 0) } ∷ [] else []
