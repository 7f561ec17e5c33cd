-- Accumulators: the entries that one has for marked vertices, and how a number changes them.
use Rattle.std.specs.Prelude.{ℕ, ℤ, pos, if◌then◌else◌, slice_index_or}
use Rattle.vertex_marks.specs.Marks.{is_marked}
use Rattle.edge_fold.specs.declared.accumulator.Accumulator.{Accumulator}

-- a number combined with the new entry at a vertex, or the number where nothing was given
abbrev pub held_with : (ℤ → ℤ → ℤ) → Accumulator → ℕ → ℤ → ℤ
held_with combine a v h = if is_marked a.marks v then combine h (slice_index_or a.values.items v (pos 0)) else h
