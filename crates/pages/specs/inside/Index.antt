-- A bit for each vertex that is present.
use Rattle.std.specs.Prelude.{◌≡◌, ℕ, ◌%◌, ◌^◌, ◌<◌, ◌≤◌, count_ones, List}
use Rattle.ascending_lists.specs.Maps.{Rises}
use Rattle.pages.specs.Vertices.{count_below}

-- The vertices ascend below 64. So many of them are below a vertex as bits below its bit are set, and no
-- bit is set after the last of them.
pub record IsIndex {V : Type 0} (bits : ℕ) (es : List (ℕ × V)) : Type 0 where
  pub map : Rises 0 64 es
  pub marks : (j : ℕ) → j ≤ 64 → count_below j es ≡ count_ones (bits % 2 ^ j)
  pub small : (top : ℕ) → Rises 0 top es → bits < 2 ^ top
