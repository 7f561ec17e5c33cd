-- What contracts see of the new entry of a vector.
use Rattle.std.specs.Prelude.{ℕ, ℤ}

-- the new entry at a vertex
pub record EntryChangeValue : Type 0 where
  pub vertex : ℕ
  pub number : ℤ
