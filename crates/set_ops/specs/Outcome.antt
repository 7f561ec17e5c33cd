-- What the calls on two sets, or on a set and a list, give, case by case.
use Rattle.std.specs.Prelude.{◌≡◌, ◌≢◌, ℕ, ℤ, None, List, Result, Ok, Err}
use Rattle.std.specs.Map.{keys_of}
use Rattle.ascending_lists.specs.Ascending.{Ascends}
use Rattle.ascending_lists.specs.MapOperations.{union_keeping_second, without_keys}
use Rattle.c_tree.specs.Chunks.{ChunkedSet, IsSetOf}
use Rattle.set_ops.specs.declared.error.SetError.{SetError}
use Rattle.set_ops.specs.declared.error.SetError.TheVariants.{NotAscending, ChunkSizesDiffer, NoMemory}

-- the set of these entries at the chunk size of both sets, or the refusal of chunk sizes that differ
abbrev pub Gives : List (ℕ × ℤ) → ChunkedSet → ChunkedSet → Result ChunkedSet SetError → Type 0
Gives es a b (Ok t) = (a.chunk_size ≡ b.chunk_size) × IsSetOf es a.chunk_size t
Gives es a b (Err NotAscending) = ⊥
Gives es a b (Err ChunkSizesDiffer) = a.chunk_size ≢ b.chunk_size
Gives es a b (Err NoMemory) = a.chunk_size ≡ b.chunk_size

-- the set of the entries of both, with the second's weight where both have a key, or the refusal
abbrev pub Unites : ChunkedSet → ChunkedSet → Result ChunkedSet SetError → Type 0
Unites a b r = Gives (union_keeping_second a.entries b.entries) a b r

-- the set of the entries of the first whose keys the second lacks, or the refusal
abbrev pub Subtracts : ChunkedSet → ChunkedSet → Result ChunkedSet SetError → Type 0
Subtracts a b r = Gives (without_keys a.entries (keys_of b.entries)) a b r

-- the set of an answer at a chunk size, or the refusal of the keys ks, which do not ascend
abbrev pub Changes : List ℕ → List (ℕ × ℤ) → ℕ → Result ChunkedSet SetError → Type 0
Changes ks answer b (Ok t) = Ascends None ks × IsSetOf answer b t
Changes ks answer b (Err NotAscending) = ¬ Ascends None ks
Changes ks answer b (Err ChunkSizesDiffer) = ⊥
Changes ks answer b (Err NoMemory) = Ascends None ks

-- the set with entries added, of which each has its new weight, or the refusal
abbrev pub Inserts : ChunkedSet → List (ℕ × ℤ) → Result ChunkedSet SetError → Type 0
Inserts a es r = Changes (keys_of es) (union_keeping_second a.entries es) a.chunk_size r

-- the set without some keys, or the refusal
abbrev pub Removes : ChunkedSet → List ℕ → Result ChunkedSet SetError → Type 0
Removes a ks r = Changes ks (without_keys a.entries ks) a.chunk_size r
