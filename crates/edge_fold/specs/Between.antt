-- The edges that an apply goes over.
use Rattle.std.specs.Prelude.{ℕ, Bool, ◌&&◌, List, map}
use Rattle.std.specs.List.{filter}
use Rattle.weighted_edges.specs.Edge.{Edge}

-- those from a source that passes to a destination that passes
abbrev pub edges_between : (from to : ℕ → Bool) → List Edge → List Edge
edges_between from to edges = filter (λ e. from e.0 && to e.1) edges

-- the first of each
abbrev pub firsts : {V : Type 0} → List (ℕ × V) → List ℕ
firsts ds = map (λ d. d.0) ds
