-- Sets of vertices, as a contract sees them.
use Rattle.std.specs.Prelude.{◌≡◌, ◌↔◌, ℕ, ◌+◌, ◌/◌, ◌%◌, ◌<◌, ◌⊎◌, Bool, true, false, List, length, slice_index, slice_index_or, All, Contains}
use Rattle.std.specs.Int.{bit_at}
use Rattle.std.specs.List.{range_with_len}
use Rattle.std.specs.List.Sorted.{IsStrictlyIncreasing}
use Rattle.vertex_sets.specs.declared.form.Form.{Form}

-- A set of vertices: how many vertices there are to choose from, the members in ascending order, and
-- the form in which they are kept.
pub record VertexSubset : Type 0 where
  pub vertices : ℕ
  pub members : List ℕ
  pub form : Form

abbrev pub subset : ℕ → List ℕ → Form → VertexSubset
subset vertices members form = record { vertices = vertices; members = members; form = form }

-- Each number of the list is above the one before it, and all are below n.
pub record IsAscendingBelow (n : ℕ) (xs : List ℕ) : Type 0 where
  pub ascending : IsStrictlyIncreasing xs
  pub below : All (λ v. v < n) xs

abbrev pub IsVertexSet : VertexSubset → Type 0
IsVertexSet s = IsAscendingBelow s.vertices s.members

-- the vertices 0 to n - 1
abbrev pub all_vertices : ℕ → List ℕ
all_vertices n = range_with_len 0 n

-- The new set has the members of the old one and the vertex, and no others.
pub record Adds (v : ℕ) (old new : VertexSubset) : Type 0 where
  pub vertices : new.vertices ≡ old.vertices
  pub form : new.form ≡ old.form
  pub members : (u : ℕ) → Contains new.members u ↔ ((u ≡ v) ⊎ Contains old.members u)

-- The vertex is a member and the test may answer true for it, or it is none and the test may answer
-- false.
abbrev pub IsAnswer : (ℕ → Bool → Type 0) → List ℕ → ℕ → Type 0
IsAnswer gives members v = (Contains members v × gives v true) ⊎ (¬ Contains members v × gives v false)

-- how many words have a bit for each of n vertices
abbrev pub word_count : ℕ → ℕ
word_count n = (n + 63) / 64

-- Vertex v is a member exactly where bit v % 64 of word v / 64 is set.
pub record AreWordsOf (s : VertexSubset) (words : List ℕ) : Type 0 where
  pub count : length words ≡ word_count s.vertices
  pub members : (v : ℕ) → Contains s.members v ↔ (bit_at (slice_index words (v / 64)) (v % 64) ≡ 1)

-- Vertex v is a member exactly where flag v is true.
pub record AreFlagsOf (s : VertexSubset) (flags : List Bool) : Type 0 where
  pub count : length flags ≡ s.vertices
  pub members : (v : ℕ) → Contains s.members v ↔ (slice_index_or flags v false ≡ true)
