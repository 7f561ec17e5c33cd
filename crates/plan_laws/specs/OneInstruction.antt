-- Two fused statements as one instruction of a plan.
use Rattle.std.specs.Prelude.{◌≡◌, ◌≢◌, ◌⊎◌, ℕ, true, List, ◌∷◌, ◌++◌, Some}
use Rattle.std.specs.List.{AllByRecursion}
use Rattle.typed_tree.specs.BlockTree.{StatementKindTree}
use Rattle.typed_tree.specs.ProgramTree.{ProgramTree}
use Rattle.apply_options.specs.ScheduleTree.{ScheduleTree, apply_schedule_of}
use Rattle.plans.specs.Instruction.{OperationTree, ApplyEdgesTogether, ApplyVerticesTogether, InstructionTree}
use Rattle.plans.specs.Fusing.{EdgeApplyTree, VertexApplyTree, edge_apply_of, is_same_end, vertex_apply_of}
use Rattle.plans.specs.Plan.{plan_of}
use Rattle.plan_laws.specs.Neighbours.{StatementTree, AreNeighbours}

-- both statements are edge applies between the same ends, and the operation does the two together
pub record AreEdgesTogether (first second : StatementKindTree) (operation : OperationTree) : Type 0 where
  pub one : EdgeApplyTree
  pub other : EdgeApplyTree
  pub first_applies : edge_apply_of first ≡ Some one
  pub second_applies : edge_apply_of second ≡ Some other
  pub same_sources : is_same_end one.ends.from other.ends.from ≡ true
  pub same_destinations : is_same_end one.ends.to other.ends.to ≡ true
  pub does : operation ≡ ApplyEdgesTogether one.ends one.part other.part

-- both statements are vertex applies to the same set, and the operation does the two together
pub record AreVerticesTogether (first second : StatementKindTree) (operation : OperationTree) : Type 0 where
  pub one : VertexApplyTree
  pub other : VertexApplyTree
  pub first_applies : vertex_apply_of first ≡ Some one
  pub second_applies : vertex_apply_of second ≡ Some other
  pub same_set : one.set.index ≡ other.set.index
  pub does : operation ≡ ApplyVerticesTogether one.set one.function other.function

abbrev pub AreTogether : (first second : StatementKindTree) → OperationTree → Type 0
AreTogether first second operation = AreEdgesTogether first second operation ⊎ AreVerticesTogether first second operation

-- the instruction comes from neither of two statements
abbrev pub IsOfNeither : (first second : StatementTree) → InstructionTree → Type 0
IsOfNeither first second i = (i.number ≢ first.number) × (i.number ≢ second.number)

-- Two statements are right after each other in a block of main and have these labels. The plan has one instruction for both: it has the
-- number of the first, goes by what the schedule says of the first label, and does the two applies together. Each other instruction, before
-- it and after it, has another number than theirs.
pub record IsOneInstruction (p : ProgramTree) (s : ScheduleTree) (first_label second_label : ℕ) : Type 0 where
  pub first : StatementTree
  pub second : StatementTree
  pub neighbours : AreNeighbours first second p.main
  pub first_has : first.label ≡ Some first_label
  pub second_has : second.label ≡ Some second_label
  pub two : first.number ≢ second.number
  pub before : List InstructionTree
  pub instruction : InstructionTree
  pub after : List InstructionTree
  pub plan : plan_of p s ≡ before ++ instruction ∷ after
  pub number : instruction.number ≡ first.number
  pub apply_schedule : instruction.apply_schedule ≡ apply_schedule_of first_label s
  pub together : AreTogether first.action second.action instruction.operation
  pub others_before : AllByRecursion (IsOfNeither first second) before
  pub others_after : AllByRecursion (IsOfNeither first second) after
