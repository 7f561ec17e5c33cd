-- Beside `Parts`: definitions that no public contract cites.
use Rattle.std.specs.Prelude.{ℕ, None, List, ◌≡◌, length}
use Rattle.std.specs.List.{All}
use Rattle.std.specs.Map.{keys_of}
use Rattle.ascending_lists.specs.Ascending.{Ascends}
use Rattle.tail_codec.specs.Spelling.{BasedList}
use Rattle.shared_tree.specs.Balanced.{Balanced}
use Rattle.c_tree.specs.Chunks.{ChunkedSet, HeadValue, HasNoHead}
use Rattle.c_tree.specs.inside.Chunks.{together, IsChunk}

-- what is before all heads, and a tree of chunks, as a set
abbrev pub in_chunks : ℕ → BasedList → Balanced HeadValue → ChunkedSet
in_chunks b prefix chunks = record { entries = together prefix chunks.entries; chunk_size = b; depth = chunks.depth }

-- Entries before all heads and chunks of size b, together in ascending order of keys.
pub record IsPart (b : ℕ) (prefix : BasedList) (chunks : List (ℕ × HeadValue)) : Type 0 where
  pub ascending : Ascends None (keys_of (together prefix chunks))
  pub front : HasNoHead b prefix.entries
  pub each : All (IsChunk b) chunks

-- A prefix and chunks that make a set of n entries.
pub record IsMadeOf (b : ℕ) (len : ℕ) (prefix : BasedList) (chunks : List (ℕ × HeadValue)) : Type 0 where
  pub part : IsPart b prefix chunks
  pub base : prefix.base ≡ None
  pub count : len ≡ length (together prefix chunks)
