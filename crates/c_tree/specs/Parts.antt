-- What is in a set before a head, after it, below a key and above it.
use Rattle.std.specs.Prelude.{◌≡◌, ℕ, ℤ, ◌+◌, max, true, Option, None, ◌∷◌, ◌++◌}
use Rattle.std.specs.Map.{keys_of}
use Rattle.ascending_lists.specs.Ascending.{Ascends}
use Rattle.tail_codec.specs.EntryCuts.{CutsEntries}
use Rattle.c_tree.specs.Heads.{is_head}
use Rattle.c_tree.specs.Chunks.{ChunkedSet}

-- The set s is l, then the head k with weight w, then r, and k is at the root of its tree.
pub record IsRoot (s l : ChunkedSet) (k : ℕ) (w : ℤ) (r : ChunkedSet) : Type 0 where
  pub entries : s.entries ≡ l.entries ++ (k, w) ∷ r.entries
  pub ascending : Ascends None (keys_of s.entries)
  pub head : is_head s.chunk_size k ≡ true
  pub left_size : l.chunk_size ≡ s.chunk_size
  pub right_size : r.chunk_size ≡ s.chunk_size
  pub depth : s.depth ≡ max l.depth r.depth + 1

-- The sets l and r are what s has below k and above it, and found is the weight of k if s has it.
pub record IsCut (k : ℕ) (s l : ChunkedSet) (found : Option ℤ) (r : ChunkedSet) : Type 0 where
  pub list : CutsEntries k s.entries l.entries found r.entries
  pub left_size : l.chunk_size ≡ s.chunk_size
  pub right_size : r.chunk_size ≡ s.chunk_size
