-- The one way in which entries are cut into chunks.
use Rattle.std.specs.Prelude.{[], ◌≡◌, ℕ, ℤ, false, if◌then◌else◌, None, Some, List, ◌∷◌}
use Rattle.std.specs.List.{All}
use Rattle.std.specs.Map.{keys_of}
use Rattle.ascending_lists.specs.Ascending.{Ascends}
use Rattle.tail_codec.specs.Spelling.{BasedList, based_list}
use Rattle.c_tree.specs.Heads.{IsChunkSize, is_head}

-- what is before the first head
abbrev pub before_head : ℕ → List (ℕ × ℤ) → List (ℕ × ℤ)
before_head b [] = []
before_head b (e ∷ es) = if is_head b e.0 then [] else e ∷ before_head b es

-- the prefix: what is before the first head, over no base
abbrev pub prefix_of : ℕ → List (ℕ × ℤ) → BasedList
prefix_of b es = based_list None (before_head b es)

-- what a tree of chunks has at a head: the weight of the head, and the tail
pub record HeadValue : Type 0 where
  pub weight : ℤ
  pub tail : BasedList

abbrev pub head_value : ℤ → BasedList → HeadValue
head_value w t = record { weight = w; tail = t }

-- the chunks: each head with its weight and its tail, which is what is after the head up to the
-- next one, over the head
abbrev pub chunks_of : ℕ → List (ℕ × ℤ) → List (ℕ × HeadValue)
chunks_of b [] = []
chunks_of b (e ∷ es) =
    if is_head b e.0
    then (e.0, head_value e.1 (based_list (Some e.0) (before_head b es))) ∷ chunks_of b es
    else chunks_of b es

-- no key is a head
abbrev pub HasNoHead : ℕ → List (ℕ × ℤ) → Type 0
HasNoHead b es = All (λ k. is_head b k ≡ false) (keys_of es)

-- entries with ascending keys, the chunk size at which they are cut, and how many nodes the longest way
-- down the tree of their chunks has
pub record ChunkedSet : Type 0 where
  pub entries : List (ℕ × ℤ)
  pub chunk_size : ℕ
  pub depth : ℕ

-- The set s has these entries in chunks of size b.
pub record IsSetOf (es : List (ℕ × ℤ)) (b : ℕ) (s : ChunkedSet) : Type 0 where
  pub entries : s.entries ≡ es
  pub chunk_size : s.chunk_size ≡ b

-- what is true of each set
pub record IsChunkedSet (s : ChunkedSet) : Type 0 where
  pub ascending : Ascends None (keys_of s.entries)
  pub chunk_size : IsChunkSize s.chunk_size
