-- Two lists that are partly merged.
use Rattle.std.specs.Prelude.{◌≡◌, ℕ, ◌≤◌, ◌⊎◌, List, [], ◌++◌, length, take, drop}
use Rattle.ascending_lists.specs.Operations.{combined}
use Rattle.ascending_lists.specs.declared.set_operation.Merged.{Merged}
use Rattle.ascending_lists.specs.declared.set_operation.Operation.{Operation}

-- The list has what is in front of the answer, and one of xs and ys is over.
pub record IsMerged (op : Operation) (xs ys list : List ℕ) (m : Merged) : Type 0 where
  pub first : m.first ≤ length xs
  pub second : m.second ≤ length ys
  pub room : m.len ≤ length list
  pub whole : take m.len list ++ combined op (drop m.first xs) (drop m.second ys) ≡ combined op xs ys
  pub ends : (drop m.first xs ≡ []) ⊎ (drop m.second ys ≡ [])
