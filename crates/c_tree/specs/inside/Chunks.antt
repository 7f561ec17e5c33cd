-- Beside `Chunks`: definitions that no public contract cites.
use Rattle.std.specs.Prelude.{[], ℕ, ℤ, List, ◌∷◌, ◌++◌, ◌≡◌, true, Some, None}
use Rattle.std.specs.List.{All}
use Rattle.tail_codec.specs.Spelling.{BasedList}
use Rattle.c_tree.specs.Chunks.{HeadValue, HasNoHead}
use Rattle.c_tree.specs.Heads.{is_head}

-- the entries of chunks one after another: that of the head, and those of its tail
abbrev pub entries_of : List (ℕ × HeadValue) → List (ℕ × ℤ)
entries_of [] = []
entries_of (c ∷ cs) = (c.0, c.1.weight) ∷ (c.1.tail.entries ++ entries_of cs)

-- a prefix and chunks put together
abbrev pub together : BasedList → List (ℕ × HeadValue) → List (ℕ × ℤ)
together prefix chunks = prefix.entries ++ entries_of chunks

-- a head with a tail that stands over it and has no head
pub record IsChunk (b : ℕ) (c : ℕ × HeadValue) : Type 0 where
  pub head : is_head b c.0 ≡ true
  pub base : c.1.tail.base ≡ Some c.0
  pub tail : HasNoHead b c.1.tail.entries

-- A prefix and chunks that are es cut at its heads.
pub record IsChunking (b : ℕ) (es : List (ℕ × ℤ)) (prefix : BasedList) (chunks : List (ℕ × HeadValue)) : Type 0 where
  pub whole : es ≡ together prefix chunks
  pub base : prefix.base ≡ None
  pub front : HasNoHead b prefix.entries
  pub each : All (IsChunk b) chunks
