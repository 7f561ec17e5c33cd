-- Vertices with the lists of their neighbours, each neighbour with a weight.
use Rattle.std.specs.Prelude.{ℕ, ℤ, ◌+◌, ◌<◌, ◌≤◌, ◌==◌, nat_lt, if◌then◌else◌, List, [], ◌∷◌, length}
use Rattle.std.specs.Map.{keys_of}
use Rattle.ascending_lists.specs.Ascending.{AscendsFrom}
use Rattle.ascending_lists.specs.Maps.{Rises}

-- the neighbours of a vertex with their weights, or none where it is not present
abbrev pub neighbours_of : ℕ → List (ℕ × List (ℕ × ℤ)) → List (ℕ × ℤ)
neighbours_of u [] = []
neighbours_of u (e ∷ es) = if e.0 == u then e.1 else neighbours_of u es

-- how many vertices are below one
abbrev pub count_below : {V : Type 0} → ℕ → List (ℕ × V) → ℕ
count_below u [] = 0
count_below u (e ∷ es) = (if nat_lt e.0 u then 1 else 0) + count_below u es

-- a list of 1 to 256 entries whose neighbours ascend
pub record IsPacked (xs : List (ℕ × ℤ)) : Type 0 where
  pub some : 0 < length xs
  pub few : length xs ≤ 256
  pub ascends : AscendsFrom 0 (keys_of xs)

-- so is the list of each vertex
abbrev pub ArePacked : List (ℕ × List (ℕ × ℤ)) → Type 0
ArePacked [] = Unit {0}
ArePacked (e ∷ es) = IsPacked e.1 × ArePacked es

-- vertices below 64, ascending, each with 1 to 256 neighbours that ascend
pub record IsPage (es : List (ℕ × List (ℕ × ℤ))) : Type 0 where
  pub map : Rises 0 64 es
  pub packed : ArePacked es
