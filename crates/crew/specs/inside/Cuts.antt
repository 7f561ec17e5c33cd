-- Cuts at a limit, from one index of a list to a later one.
use Rattle.std.specs.Prelude.{◌≡◌, ℕ, ◌+◌, ◌≤◌, List, ◌++◌, drop}
use Rattle.crew.specs.Limits.{limited_ends, weight}

-- the vertices and edges from an index on
abbrev pub weight_left : (index : ℕ) → (degrees : List ℕ) → ℕ
weight_left index degrees = weight (drop index degrees)

-- the ends so far, and those from an index on, where the run that is not ended has reached so much
abbrev pub all_ends : (limit : ℕ) → (degrees : List ℕ) → (reached index : ℕ) → (ends : List ℕ) → List ℕ
all_ends limit degrees reached index ends = ends ++ limited_ends limit reached index (drop index degrees)

-- from one index to a later one all ends stay the same, and what is left does not grow
pub record CutsOn (limit : ℕ) (degrees : List ℕ) (reached index : ℕ) (before : List ℕ) (after later : ℕ) (more : List ℕ) : Type 0 where
  pub ends : all_ends limit degrees after later more ≡ all_ends limit degrees reached index before
  pub fits : after + weight_left later degrees ≤ reached + weight_left index degrees
