-- Edges, and the edges between pairs of ends.
use Rattle.std.specs.Prelude.{ℕ, ℤ, pos}

-- an edge: its source, its destination and its weight
abbrev pub Edge : Type 0
Edge = ℕ × ℕ × ℤ

-- the weight of an edge that is given none
abbrev pub unit_weight : ℤ
unit_weight = pos 1

-- the edge between these ends that is given none
abbrev pub unit_edge : ℕ × ℕ → Edge
unit_edge ends = (ends.0, ends.1, unit_weight)
