-- The neighbours of vertices, and the edges that they make.
use Rattle.std.specs.Prelude.{◌≡◌, ℕ, ℤ, ◌<◌, unwrap_or, List, length}
use Rattle.std.specs.List.{All}
use Rattle.ascending_lists.specs.Maps.{IsMap, lookup}

-- The vertices that have neighbours, ascending, each with the number of them.
pub record AreDegreesOf (neighbours : ℕ → List (ℕ × ℤ)) (ds : List (ℕ × ℕ)) : Type 0 where
  pub map : IsMap ds
  pub some : All (λ d. 0 < d.1) ds
  pub degrees : (u : ℕ) → unwrap_or (lookup u ds) 0 ≡ length (neighbours u)
