-- The numbers of edges from listed sources.
use Rattle.std.specs.Prelude.{ℕ, List, length, map, ◌≡◌, ◌+◌, ◌*◌, ◌<◌, slice_index, slice_range}
use Rattle.flat_snapshot.specs.Digraph.{Digraph}
use Rattle.flat_snapshot.specs.Neighbours.{destinations_of}
use Rattle.crew.specs.Limits.{weight}

-- those of each source, in their order
abbrev pub out_degrees : Digraph → (sources : List ℕ) → List ℕ
out_degrees g us = map (λ u. length (destinations_of u g.edges)) us

-- the vertices and edges of each run of 64
abbrev pub AreRunTotals : (degrees totals : List ℕ) → Type 0
AreRunTotals ds totals = (k : ℕ) → 64 * k < length ds → slice_index totals k ≡ weight (slice_range ds (64 * k) (64 * k + 64))
