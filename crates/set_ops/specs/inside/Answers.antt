-- What the operations give before it is a set.
use Rattle.std.specs.Prelude.{◌≡◌, ℕ, ◌+◌, ℤ, if◌then◌else◌, Option, Some, None, List, ◌∷◌, ◌++◌, length}
use Rattle.std.specs.Option.{is_some, unwrap_or}
use Rattle.ascending_lists.specs.Operations.{most}
use Rattle.tail_codec.specs.Operations.{combined_maps, on_keys}
use Rattle.tail_codec.specs.declared.operation.MapOperation.{MapOperation}
use Rattle.tail_codec.specs.declared.operation.MapOperation.TheVariants.{Union, UnionKeepingFirst, Difference}
use Rattle.c_tree.specs.Chunks.{ChunkedSet, IsSetOf}
use Rattle.set_ops.specs.declared.combined.Combined.{Combined}
use Rattle.set_ops.specs.declared.combined.Head.{Head}

-- The set m is the answer for xs and ys in chunks of size b, which have common keys.
pub record IsCombined (op : MapOperation) (b : ℕ) (xs ys : List (ℕ × ℤ)) (m : ChunkedSet) (common : ℕ) : Type 0 where
  pub set : IsSetOf (combined_maps op xs ys) b m
  pub count : common + length (combined_maps op xs ys) ≡ most (on_keys op) (length xs) (length ys)

-- the weight of a key of the first list in the answer if the answer has the key, where found is the
-- second's weight if the second has it
abbrev pub kept : MapOperation → ℤ → Option ℤ → Option ℤ
kept Union w found = Some (unwrap_or found w)
kept UnionKeepingFirst w found = Some w
kept Difference w None = Some w
kept Difference w (Some v) = None

-- entries, and between them that of a key if it has a weight
abbrev pub around : List (ℕ × ℤ) → ℕ → Option ℤ → List (ℕ × ℤ) → List (ℕ × ℤ)
around xs k None ys = xs ++ ys
around xs k (Some w) ys = xs ++ (k, w) ∷ ys

-- what is below a head and above it, with the head between if the answer has it
abbrev pub rejoined : MapOperation → List (ℕ × ℤ) → Head → List (ℕ × ℤ) → List (ℕ × ℤ)
rejoined op xs h ys = around xs h.key (kept op h.weight h.found) ys

-- The set m is rejoined from below and above.
pub record IsRejoined (op : MapOperation) (below : Combined) (h : Head) (above : Combined) (m : ChunkedSet) (common : ℕ) : Type 0 where
  pub set : IsSetOf (rejoined op below.part.entries h above.part.entries) below.part.chunk_size m
  pub count : common ≡ below.common + above.common + (if is_some h.found then 1 else 0)
