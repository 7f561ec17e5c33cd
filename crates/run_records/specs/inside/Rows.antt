-- The rows of vectors.
use Rattle.std.specs.Prelude.{◌≡◌, ℕ, ◌<◌, ℤ, List, [], length, slice_index_or}

-- there are m vectors, each with an entry for each of n vertices and no more
pub record HaveRows (m n : ℕ) (vectors : List (List ℤ)) : Type 0 where
  pub count : length vectors ≡ m
  pub rows : (x : ℕ) → x < m → length (slice_index_or vectors x []) ≡ n
