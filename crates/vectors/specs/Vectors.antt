-- What contracts see of the vectors of a run.
use Rattle.std.specs.Prelude.{◌≡◌, ℕ, ◌+◌, ◌*◌, ◌<◌, ℤ, pos, List, [], length, slice_index_or}
use Rattle.algorithm_meaning.specs.Value.{entry}

-- the vectors by their indices, each with an entry for each vertex, and the groups of vectors that stand side by side,
-- each by the indices of its vectors
pub record VectorsValue : Type 0 where
  pub vectors : List (List ℤ)
  pub groups : List (List ℕ)

abbrev pub value_with_vectors : VectorsValue → List (List ℤ) → VectorsValue
value_with_vectors v vectors = record v { vectors = vectors }

-- groups of vectors that are there, each once in one group, and those of a group with the same number of entries
pub record IsGrouping (vectors : List (List ℤ)) (groups : List (List ℕ)) : Type 0 where
  pub known : (g h : ℕ) → g < length groups → h < length (slice_index_or groups g []) → slice_index_or (slice_index_or groups g []) h 0 < length vectors
  pub group : (g h i j : ℕ) → g < length groups → h < length (slice_index_or groups g []) → i < length groups → j < length (slice_index_or groups i [])
      → slice_index_or (slice_index_or groups g []) h 0 ≡ slice_index_or (slice_index_or groups i []) j 0 → g ≡ i
  pub index : (g h i j : ℕ) → g < length groups → h < length (slice_index_or groups g []) → i < length groups → j < length (slice_index_or groups i [])
      → slice_index_or (slice_index_or groups g []) h 0 ≡ slice_index_or (slice_index_or groups i []) j 0 → h ≡ j
  pub even : (g h : ℕ) → g < length groups → h < length (slice_index_or groups g [])
      → length (slice_index_or vectors (slice_index_or (slice_index_or groups g []) h 0) []) ≡ length
      (slice_index_or vectors (slice_index_or (slice_index_or groups g []) 0 0) [])

-- an array with a row for each vertex, in which the entries of the named vectors stand side by side
pub record HasRows (vectors : List (List ℤ)) (names : List ℕ) (array : List ℤ) : Type 0 where
  pub entries : (j v : ℕ) → j < length names → v < length (slice_index_or vectors (slice_index_or names j 0) [])
      → slice_index_or array (v * length names + j) (pos 0) ≡ entry vectors (slice_index_or names j 0) v
  pub size : (j : ℕ) → j < length names → length array ≡ length (slice_index_or vectors (slice_index_or names j 0) []) * length names
