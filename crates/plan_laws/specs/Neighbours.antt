-- Two statements of main, the second right after the first in a block.
use Rattle.std.specs.Prelude.{◌≡◌, ◌⊎◌, ℕ, Option}
use Rattle.typed_tree.specs.BlockTree.{StatementKindTree, Simple, If, IfElse, While, For, BlockTree, Empty, Then}

-- a statement with its number and its label
pub record StatementTree : Type 0 where
  pub number : ℕ
  pub label : Option ℕ
  pub action : StatementKindTree

-- the block begins with the statement
abbrev pub BeginsWith : StatementTree → BlockTree → Type 0
BeginsWith s Empty = ⊥
BeginsWith s (Then number label action others) = record { number = number; label = label; action = action } ≡ s

abbrev mutual
  -- the second statement is right after the first in a block of the statement
  pub AreNeighboursInside : (first second : StatementTree) → StatementKindTree → Type 0
  AreNeighboursInside first second (Simple a) = ⊥
  AreNeighboursInside first second (If c body) = AreNeighbours first second body
  AreNeighboursInside first second (IfElse c body other) = AreNeighbours first second body ⊎ AreNeighbours first second other
  AreNeighboursInside first second (While c body) = AreNeighbours first second body
  AreNeighboursInside first second (For name start end body) = AreNeighbours first second body

  -- so they are in the block: as its first two statements, inside the first, or after it
  pub AreNeighbours : (first second : StatementTree) → BlockTree → Type 0
  AreNeighbours first second Empty = ⊥
  AreNeighbours first second (Then number label action others) =
      (BeginsWith first (Then number label action others) × BeginsWith second others)
      ⊎ (AreNeighboursInside first second action ⊎ AreNeighbours first second others)
