-- Two lists of entries that are partly merged.
use Rattle.std.specs.Prelude.{◌≡◌, ℕ, ◌≤◌, ◌⊎◌, ℤ, List, [], ◌++◌, length, take, drop}
use Rattle.std.specs.List.{zip}
use Rattle.std.specs.Map.{keys_of}
use Rattle.ascending_lists.specs.MapOperations.{union_keeping_second, without_keys}
use Rattle.ascending_lists.specs.Operations.{combined}
use Rattle.ascending_lists.specs.declared.set_operation.Operation.{Operation}
use Rattle.ascending_lists.specs.declared.set_operation.Operation.TheVariants.{Union, Difference}
use Rattle.tail_codec.specs.declared.merging.Merged.{Merged}

-- what an operation on keys makes of entries, where the second's weight is kept
abbrev pub merged : {V : Type 0} → Operation → List (ℕ × V) → List (ℕ × V) → List (ℕ × V)
merged Union xs ys = union_keeping_second xs ys
merged Difference xs ys = without_keys xs (keys_of ys)

-- the keys of the answer
abbrev pub merged_keys : {V : Type 0} → Operation → List (ℕ × V) → List (ℕ × V) → List ℕ
merged_keys op xs ys = combined op (keys_of xs) (keys_of ys)

-- The columns have what is in front of the answer, and one of xs and ys is over.
pub record IsMerged (op : Operation) (xs ys : List (ℕ × ℤ)) (keys : List ℕ) (weights : List ℤ) (m : Merged) : Type 0 where
  pub first : m.first ≤ length xs
  pub second : m.second ≤ length ys
  pub room : m.len ≤ length keys
  pub whole : take m.len (zip keys weights) ++ merged op (drop m.first xs) (drop m.second ys) ≡ merged op xs ys
  pub ends : (drop m.first xs ≡ []) ⊎ (drop m.second ys ≡ [])
