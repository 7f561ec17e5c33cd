-- Beside `Lowered`: definitions that no public contract cites.
use Rattle.std.specs.Prelude.{ℕ, List}
use Rattle.apply_options.specs.ScheduleTree.{ScheduleTree}
use Rattle.typed_tree.specs.declared.program.Vector.{Vector}
use Rattle.typed_tree.specs.ProgramTree.{ProgramTree}
use Rattle.plans.specs.declared.functions.FunctionKernels.{FunctionKernels}
use Rattle.plans.specs.declared.instruction.Instruction.{Instruction}
use Rattle.plans.specs.Plan.{ArePartsOf}

-- so they are for this program under some schedule
pub record AreLowered (is : List Instruction) (f : FunctionKernels) (vs : List Vector) (ss : List ℕ) (ns gs : List (List ℕ))
    (program : ProgramTree) : Type 0 where
  pub schedule : ScheduleTree
  pub planned : ArePartsOf is f vs ss ns gs program schedule
