-- Beside `Rows`: definitions that no public contract cites.
use Rattle.std.specs.Prelude.{ℕ, Bool, List}
use Rattle.std.specs.List.{filter}
use Rattle.weighted_edges.specs.Edge.{Edge}
use Rattle.push_engine.specs.Rows.{rows}

-- of these those to the destinations that pass
abbrev pub rows_to : (to : ℕ → Bool) → List Edge → (sources : List ℕ) → List Edge
rows_to to es us = filter (λ e. to e.1) (rows es us)
