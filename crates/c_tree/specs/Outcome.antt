-- What the calls that make a set give, case by case.
use Rattle.std.specs.Prelude.{◌≡◌, ℕ, ℤ, None, Result, Ok, Err, List, []}
use Rattle.std.specs.Map.{keys_of}
use Rattle.ascending_lists.specs.Ascending.{Ascends}
use Rattle.c_tree.specs.declared.error.CTreeError.{CTreeError}
use Rattle.c_tree.specs.declared.error.CTreeError.TheVariants.{BadChunkSize, NotAscending, NoMemory}
use Rattle.c_tree.specs.Heads.{IsChunkSize}
use Rattle.c_tree.specs.Chunks.{ChunkedSet, IsSetOf}

-- the chunk size b, or the refusal of a number that is none
abbrev pub Accepts : ℕ → Result ℕ CTreeError → Type 0
Accepts b (Ok size) = IsChunkSize b × (size ≡ b)
Accepts b (Err BadChunkSize) = ¬ IsChunkSize b
Accepts b (Err NotAscending) = ⊥
Accepts b (Err NoMemory) = ⊥

-- the empty set at chunk size b, or the refusal of a number that is none
abbrev pub Opens : ℕ → Result ChunkedSet CTreeError → Type 0
Opens b (Ok t) = IsChunkSize b × (t ≡ record { entries = []; chunk_size = b; depth = 0 })
Opens b (Err BadChunkSize) = ¬ IsChunkSize b
Opens b (Err NotAscending) = ⊥
Opens b (Err NoMemory) = ⊥

-- the set of entries at chunk size b, or the first refusal
abbrev pub Builds : ℕ → List (ℕ × ℤ) → Result ChunkedSet CTreeError → Type 0
Builds b es (Ok t) = IsChunkSize b × Ascends None (keys_of es) × IsSetOf es b t
Builds b es (Err BadChunkSize) = ¬ IsChunkSize b
Builds b es (Err NotAscending) = IsChunkSize b × ¬ Ascends None (keys_of es)
Builds b es (Err NoMemory) = IsChunkSize b × Ascends None (keys_of es)
