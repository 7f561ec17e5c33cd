-- Beside `Edge`: definitions that no public contract cites.
use Rattle.std.specs.Prelude.{ℕ, List, map}
use Rattle.weighted_edges.specs.Edge.{Edge, unit_edge}

-- so it is between each two of these ends
abbrev pub unit_edges : List (ℕ × ℕ) → List Edge
unit_edges es = map unit_edge es
