-- For each vertex, whether it passes an end of an apply.
use Rattle.std.specs.Prelude.{◌≡◌, ℕ, Bool, true, false, ◌&&◌, List, [], ◌∷◌, slice_index_or, slice_set}
use Rattle.weighted_edges.specs.Edge.{Edge}
use Rattle.plain_run.specs.declared.edge_apply.Passing.{Passing}

-- the flag of each vertex is the test's answer, and any other number is false
abbrev pub HasFlags : List Bool → (ℕ → Bool) → Type 0
HasFlags flags test = (v : ℕ) → slice_index_or flags v false ≡ test v

abbrev pub flagged : Passing → Edge → Bool
flagged p edge = slice_index_or p.sources.items edge.0 false && slice_index_or p.destinations.items edge.1 false

-- flags, with those of these vertices set
abbrev pub marked : List ℕ → List Bool → List Bool
marked [] flags = flags
marked (v ∷ vs) flags = marked vs (slice_set flags v true)
