-- The plan of a program, and of which program a plan is.
use Rattle.std.specs.Prelude.{[], ℕ, ◌+◌, Bool, false, List, ◌∷◌, ◌++◌, length, Option, ◌≡◌}
use Rattle.apply_options.specs.ScheduleTree.{ScheduleTree, apply_schedule_at, no_apply_schedule}
use Rattle.typed_tree.specs.BlockTree.{StatementKindTree, Simple, DeclareInt, DeclareBool, DeclareSet, If, IfElse, While, For, BlockTree, Empty, Then}
use Rattle.typed_tree.specs.ProgramTree.{ProgramTree}
use Rattle.typed_tree.specs.declared.program.Vector.{Vector}
use Rattle.algorithm_meaning.specs.declared.state.Depth.{Depth}
use Rattle.plans.specs.Instruction.{OperationTree, Do, Unless, Enter, UnlessBelow, Advance, Turn, Jump, End, InstructionTree}
use Rattle.plans.specs.Fusing.{FusionRole, Alone, WithNext, WithPrevious, fusion_role_of, takes_next}
use Rattle.plans.specs.declared.functions.FunctionKernels.{FunctionKernels}
use Rattle.plans.specs.declared.instruction.Instruction.{Instruction}
use Rattle.plans.specs.Operation.{AreFunctionKernels, AreInstructions}

-- one more of each kind
abbrev pub depth_with_integer : Depth → Depth
depth_with_integer d = record d { integers = d.integers + 1 }

abbrev pub depth_with_condition : Depth → Depth
depth_with_condition d = record d { conditions = d.conditions + 1 }

abbrev pub depth_with_set : Depth → Depth
depth_with_set d = record d { sets = d.sets + 1 }

-- in the body of `for`: the name, and the bound after it
abbrev pub depth_in_loop : Depth → Depth
depth_in_loop d = depth_with_integer (depth_with_integer d)

-- at the first statement of main only the constant sets are visible
abbrev pub main_depth : ProgramTree → Depth
main_depth p = record { integers = 0; conditions = 0; sets = length p.sets }

-- after a statement of main, and after all of a block
abbrev pub depth_after : StatementKindTree → Depth → Depth
depth_after (Simple (DeclareInt name e)) d = depth_with_integer d
depth_after (Simple (DeclareBool name c)) d = depth_with_condition d
depth_after (Simple (DeclareSet name value)) d = depth_with_set d
depth_after _ d = d

abbrev pub depth_after_all : BlockTree → Depth → Depth
depth_after_all Empty d = d
depth_after_all (Then number label action rest) d = depth_after_all rest (depth_after action d)

-- an instruction at what is visible
abbrev pub plain : (number : ℕ) → Depth → OperationTree → InstructionTree
plain number d operation = record { number = number; keep = d; shown = d; apply_schedule = no_apply_schedule; operation = operation }

-- an instruction of `for`, which keeps more than it shows
abbrev pub loop_step : (number : ℕ) → (keep shown : Depth) → OperationTree → InstructionTree
loop_step number keep shown operation = record { number = number; keep = keep; shown = shown; apply_schedule = no_apply_schedule; operation = operation }

-- an instruction with what the schedule says of a label
abbrev pub chosen : ScheduleTree → (number : ℕ) → Option ℕ → Depth → OperationTree → InstructionTree
chosen s number label d operation = record { number = number; keep = d; shown = d; apply_schedule = apply_schedule_at label s; operation = operation }

-- of a statement in such company: how many instructions there are, and which
abbrev pub size_in : FusionRole → ℕ → ℕ
size_in Alone n = n
size_in (WithNext operation) n = 1
size_in WithPrevious n = 0

abbrev pub plan_in : FusionRole → ScheduleTree → (number : ℕ) → Option ℕ → Depth → List InstructionTree → List InstructionTree
plan_in Alone s number label d is = is
plan_in (WithNext operation) s number label d is = chosen s number label d operation ∷ []
plan_in WithPrevious s number label d is = []

abbrev mutual
  -- how many instructions a statement has
  pub size : ProgramTree → ScheduleTree → Depth → StatementKindTree → ℕ
  size p s d (Simple a) = 1
  size p s d (If c body) = 1 + size_all p s d false body
  size p s d (IfElse c body other) = 1 + size_all p s d false body + 1 + size_all p s d false other
  size p s d (While c body) = 2 + size_all p s d false body + 1
  size p s d (For name first end body) = 4 + size_all p s (depth_in_loop d) false body + 2

  -- and those of a block, whose first one may be done already
  pub size_all : ProgramTree → ScheduleTree → Depth → (is_done : Bool) → BlockTree → ℕ
  size_all p s d is_done Empty = 0
  size_all p s d is_done (Then number label action rest) =
      size_in (fusion_role_of p s d is_done label action rest) (size p s d action)
      + size_all p s (depth_after action d) (takes_next (fusion_role_of p s d is_done label action rest)) rest

abbrev mutual
  -- the instructions of a statement, of which the first is at this index
  pub plan : ProgramTree → ScheduleTree → (index : ℕ) → Depth → (number : ℕ) → Option ℕ → StatementKindTree → List InstructionTree
  plan p s index d number label (Simple a) = chosen s number label d (Do a) ∷ []
  plan p s index d number label (If c body) =
      plain number d (Unless c (index + 1 + size_all p s d false body))
      ∷ plan_all p s (index + 1) d false body
  plan p s index d number label (IfElse c body other) =
      plain number d (Unless c (index + 1 + size_all p s d false body + 1))
      ∷ (plan_all p s (index + 1) d false body
      ++ plain number d (Jump (index + 1 + size_all p s d false body + 1 + size_all p s d false other))
      ∷ plan_all p s (index + 1 + size_all p s d false body + 1) d false other)
  plan p s index d number label (While c body) =
      plain number d (Unless c (index + 2 + size_all p s d false body + 1))
      ∷ plain number d Turn
      ∷ (plan_all p s (index + 2) d false body
      ++ plain number d (Jump index) ∷ [])
  plan p s index d number label (For name first end body) =
      plain number d (Do (DeclareInt name first))
      ∷ loop_step number (depth_with_integer d) d (Enter name end)
      ∷ loop_step number (depth_in_loop d) d (UnlessBelow name (index + 4 + size_all p s (depth_in_loop d) false body + 2))
      ∷ loop_step number (depth_in_loop d) d Turn
      ∷ (plan_all p s (index + 4) (depth_in_loop d) false body
      ++ plain number d (Advance name)
      ∷ loop_step number (depth_in_loop d) d (Jump (index + 2)) ∷ [])

  -- the instructions of a block
  pub plan_all : ProgramTree → ScheduleTree → (index : ℕ) → Depth → (is_done : Bool) → BlockTree → List InstructionTree
  plan_all p s index d is_done Empty = []
  plan_all p s index d is_done (Then number label action rest) =
      plan_in (fusion_role_of p s d is_done label action rest) s number label d (plan p s index d number label action)
      ++ plan_all p s (index + size_in (fusion_role_of p s d is_done label action rest) (size p s d action)) (depth_after action d)
      (takes_next (fusion_role_of p s d is_done label action rest)) rest

-- the instructions of main, and the end
abbrev pub plan_of : ProgramTree → ScheduleTree → List InstructionTree
plan_of p s = plan_all p s 0 (main_depth p) false p.main ++ plain 0 (depth_after_all p.main (main_depth p)) End ∷ []

-- they are those of the plan of a program under a schedule
pub record ArePartsOf (is : List Instruction) (f : FunctionKernels) (vs : List Vector) (ss : List ℕ) (ns gs : List (List ℕ)) (p : ProgramTree)
    (s : ScheduleTree) : Type 0 where
  pub instructions : AreInstructions is (plan_of p s)
  pub functions : AreFunctionKernels f p
  pub vectors : vs ≡ p.vectors
  pub sets : ss ≡ p.sets
  pub names : ns ≡ p.names
  pub groups : gs ≡ s.groups
