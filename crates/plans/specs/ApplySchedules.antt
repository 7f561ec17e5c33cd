-- By what edge applies go.
use Rattle.std.specs.Prelude.{◌≡◌, ℕ, List, Option, Some, None, slice_get, ◌⊎◌}
use Rattle.typed_tree.specs.BlockTree.{StatementKindTree, Simple, If, IfElse, While, For, BlockTree, Empty, Then}
use Rattle.apply_options.specs.ScheduleTree.{ScheduleTree, apply_schedule_at}
use Rattle.plans.specs.Instruction.{OperationTree, Do, ApplyEdgesTogether, InstructionTree}
use Rattle.plans.specs.Fusing.{EdgeApplyTree, edge_apply_of}

abbrev mutual
  -- the statement of this number and this label is in the block, or in a statement of it
  pub IsStatementOf : BlockTree → (number : ℕ) → (label : Option ℕ) → StatementKindTree → Type 0
  IsStatementOf Empty number label action = ⊥
  IsStatementOf (Then n l a rest) number label action =
      ((n ≡ number) × (l ≡ label) × (a ≡ action)) ⊎ (StandsInside a number label action ⊎ IsStatementOf rest number label action)

  pub StandsInside : StatementKindTree → (number : ℕ) → (label : Option ℕ) → StatementKindTree → Type 0
  StandsInside (Simple a) number label action = ⊥
  StandsInside (If c body) number label action = IsStatementOf body number label action
  StandsInside (IfElse c body other) number label action = IsStatementOf body number label action ⊎ IsStatementOf other number label action
  StandsInside (While c body) number label action = IsStatementOf body number label action
  StandsInside (For name first end body) number label action = IsStatementOf body number label action

-- the edge apply that an operation does, of two the first
abbrev pub first_apply : OperationTree → Option EdgeApplyTree
first_apply (Do action) = edge_apply_of (Simple action)
first_apply (ApplyEdgesTogether ends a b) = Some (record { ends = ends; part = a })
first_apply _ = None

-- the instruction does the edge apply of a statement of main, has its number, and goes by what the schedule says of its label
pub record ComesFrom (main : BlockTree) (s : ScheduleTree) (i : InstructionTree) (x : EdgeApplyTree) : Type 0 where
  pub number : ℕ
  pub label : Option ℕ
  pub action : StatementKindTree
  pub stands : IsStatementOf main number label action
  pub applies : edge_apply_of action ≡ Some x
  pub numbered : i.number ≡ number
  pub chosen : i.apply_schedule ≡ apply_schedule_at label s

-- so does each edge apply of a plan, and of two that are done together the first
abbrev pub GoBySchedule : BlockTree → ScheduleTree → List InstructionTree → Type 0
GoBySchedule main s plan = (index : ℕ) (i : InstructionTree) (x : EdgeApplyTree) → slice_get plan index ≡ Some i → first_apply i.operation ≡ Some x
    → ComesFrom main s i x
