-- The labels of the statements of main, as indices among all labels.
use Rattle.std.specs.Prelude.{ℕ, List, [], ◌∷◌, ◌++◌, Option, Some, None}
use Rattle.typed_tree.specs.BlockTree.{StatementKindTree, Simple, If, IfElse, While, For, BlockTree, Empty, Then}
use Rattle.typed_tree.specs.ProgramTree.{ProgramTree}
use Rattle.type_laws.specs.Numbers.{InOrder}

-- the label of a statement, where it has one
abbrev pub own_index : Option ℕ → List ℕ
own_index None = []
own_index (Some label) = label ∷ []

abbrev mutual
  -- those of the statements inside a statement
  pub inner_indices : StatementKindTree → List ℕ
  inner_indices (Simple a) = []
  inner_indices (If c body) = label_indices body
  inner_indices (IfElse c body other) = label_indices body ++ label_indices other
  inner_indices (While c body) = label_indices body
  inner_indices (For name first end body) = label_indices body

  -- in the order of the text, that of a statement before those inside it
  pub label_indices : BlockTree → List ℕ
  label_indices Empty = []
  label_indices (Then number label action others) = own_index label ++ (inner_indices action ++ label_indices others)

-- the labels of main follow each other, without a gap, from the first one on
pub record LabelsAreInOrder (p : ProgramTree) : Type 0 where
  pub first : ℕ
  pub ordered : InOrder first (label_indices p.main)
