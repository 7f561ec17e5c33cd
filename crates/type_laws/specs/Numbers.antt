-- The numbers of the statements of main.
use Rattle.std.specs.Prelude.{◌≡◌, ℕ, suc, List, [], ◌∷◌, ◌++◌}
use Rattle.typed_tree.specs.BlockTree.{StatementKindTree, Simple, If, IfElse, While, For, BlockTree, Empty, Then}

abbrev mutual
  -- those in what a statement does
  pub inner_numbers : StatementKindTree → List ℕ
  inner_numbers (Simple a) = []
  inner_numbers (If c body) = numbers body
  inner_numbers (IfElse c body other) = numbers body ++ numbers other
  inner_numbers (While c body) = numbers body
  inner_numbers (For name first end body) = numbers body

  -- in the order of the text, that of a statement before those of its body
  pub numbers : BlockTree → List ℕ
  numbers Empty = []
  numbers (Then number label action others) = number ∷ (inner_numbers action ++ numbers others)

-- the first is n, and each other is one more than the one before it
abbrev pub InOrder : ℕ → List ℕ → Type 0
InOrder n [] = Unit {0}
InOrder n (x ∷ others) = (x ≡ n) × InOrder (suc n) others
