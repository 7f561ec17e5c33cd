-- The bound on the steps of a run, read off its instructions.
use Rattle.std.specs.Prelude.{true, ℕ, List, map}
use Rattle.typed_tree.specs.BoolExpressionTree.{Literal}
use Rattle.plans.specs.Instruction.{OperationTree, Unless, UnlessBelow, Turn, End, InstructionTree}
use Rattle.plans.specs.declared.operation.PlanOperation.{PlanOperation}
use Rattle.plans.specs.declared.instruction.Instruction.{Instruction}
use Rattle.plans.specs.Machine.{Configuration}
use Rattle.plans.specs.Bound.{most_steps}
use Rattle.plans.specs.declared.operation.PlanOperation.TheVariants as op
use Rattle.plans.specs.declared.operation.ControlOperation.TheVariants as control_op

-- an operation as the bound sees it: where it may go, and whether it uses a turn
abbrev pub outline : PlanOperation → OperationTree
outline (op.Control (control_op.Unless test to)) = Unless (Literal true) to
outline (op.Control (control_op.UnlessBelow name to)) = UnlessBelow name to
outline (op.Control control_op.Turn) = Turn
outline _ = End

abbrev pub outline_of : Instruction → InstructionTree
outline_of i = record { number = i.number; keep = i.keep; shown = i.shown; apply_schedule = i.apply_schedule; operation = outline i.operation }

-- the bound on the steps that are left, as `most_steps` of plans has it
abbrev pub most_steps_of : List Instruction → Configuration → ℕ
most_steps_of is c = most_steps (map outline_of is) c
