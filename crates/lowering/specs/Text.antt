-- The text of a plan: a line for each group of vectors, and then one for each instruction.
use Rattle.std.specs.Prelude.{◌≡◌, ℕ, ◌+◌, List, [], ◌∷◌, ◌++◌, Option, Some, None, codes, decimal}
use Rattle.typed_tree.specs.ProgramTree.{ProgramTree}
use Rattle.apply_options.specs.declared.apply_schedule.ApplySchedule.{ApplySchedule}
use Rattle.apply_options.specs.ScheduleTree.{ScheduleTree}
use Rattle.plans.specs.Instruction.{ResultTree, Dropped, Declared, Assigned, EdgePartTree, OperationTree, Do, ApplyEdgesTogether, ApplyVerticesTogether, Unless}
use Rattle.plans.specs.Instruction.{Enter, UnlessBelow, Advance, Turn, Jump, End, InstructionTree}
use Rattle.plans.specs.Plan.{plan_of}
use Rattle.plan_text.specs.declared.applied_function.ChangedSet.{ChangedSet}
use Rattle.plan_text.specs.declared.applied_function.AppliedFunction.{AppliedFunction}
use Rattle.plan_text.specs.Lines.{advance_words, below_words, bound_words, edges_words, group_words, statement_words, unless_words, vertices_words}
use Rattle.plan_text.specs.Expressions.{spaced_words, spaced}
use Rattle.plans.specs.declared.instruction.Instruction.{Instruction}
use Rattle.plans.specs.declared.plan.Plan.{Plan}
use Rattle.plans.specs.Operation.{ArePairwise, IsInstruction}

-- an edge function as the text names it
abbrev pub changed_set : ResultTree → Option ChangedSet
changed_set Dropped = None
changed_set (Declared name vector) = Some (record { name = name; vector = vector })
changed_set (Assigned slot vector) = Some (record { name = slot.name; vector = vector })

abbrev pub shown_part : EdgePartTree → AppliedFunction
shown_part part = record { function = part.function; changed = changed_set part.result }

-- the words of an operation, before the index that it may go to; an apply is done as the schedule says
abbrev pub operation_words : ProgramTree → ApplySchedule → OperationTree → List (List ℕ)
operation_words p apply_schedule (Do action) = statement_words p action apply_schedule
operation_words p apply_schedule (ApplyEdgesTogether ends first second) = edges_words p ends (shown_part first) (Some (shown_part second)) apply_schedule
operation_words p apply_schedule (ApplyVerticesTogether set first second) = vertices_words p set first (Some second)
operation_words p apply_schedule (Unless c to) = unless_words p c
operation_words p apply_schedule (Enter name end) = bound_words p name end
operation_words p apply_schedule (UnlessBelow name to) = below_words p name
operation_words p apply_schedule (Advance name) = advance_words p name
operation_words p apply_schedule Turn = codes "turn" ∷ []
operation_words p apply_schedule (Jump to) = codes "jump" ∷ []
operation_words p apply_schedule End = codes "end" ∷ []

-- the number of the instruction that an operation may go to
abbrev pub target_words : OperationTree → List (List ℕ)
target_words (Do action) = []
target_words (ApplyEdgesTogether ends first second) = []
target_words (ApplyVerticesTogether set first second) = []
target_words (Unless c to) = decimal to ∷ []
target_words (Enter name end) = []
target_words (UnlessBelow name to) = decimal to ∷ []
target_words (Advance name) = []
target_words Turn = []
target_words (Jump to) = decimal to ∷ []
target_words End = []

-- words as a line, which a line feed (10) ends
abbrev pub line_of : List (List ℕ) → List ℕ
line_of ws = spaced_words ws ++ 10 ∷ []

-- an instruction with its number; those from this number on
abbrev pub instruction_line : ProgramTree → (index : ℕ) → InstructionTree → List ℕ
instruction_line p index i = line_of (decimal index ∷ operation_words p i.apply_schedule i.operation ++ target_words i.operation)

abbrev pub instruction_lines : ProgramTree → (index : ℕ) → List InstructionTree → List ℕ
instruction_lines p index [] = []
instruction_lines p index (i ∷ is) = instruction_line p index i ++ instruction_lines p (index + 1) is

-- groups of vectors that are kept side by side
abbrev pub group_lines : ProgramTree → List (List ℕ) → List ℕ
group_lines p [] = []
group_lines p (group ∷ groups) = line_of (group_words p group) ++ group_lines p groups

-- the text of the plan of a program under a schedule
abbrev pub text_of : ProgramTree → ScheduleTree → List ℕ
text_of p s = group_lines p s.groups ++ instruction_lines p 0 (plan_of p s)

-- an instruction that keeps its words, with a space after each
pub record IsWritten (p : ProgramTree) (i : Instruction) (t : InstructionTree) : Type 0 where
  pub instruction : IsInstruction i t
  pub words : i.words.items ≡ spaced (operation_words p t.apply_schedule t.operation)

abbrev pub AreWritten : ProgramTree → List Instruction → List InstructionTree → Type 0
AreWritten p is ts = ArePairwise (IsWritten p) is ts

-- a plan that keeps the words of its instructions and the lines of its groups
pub record HasText (plan : Plan) (p : ProgramTree) (s : ScheduleTree) : Type 0 where
  pub instructions : AreWritten p plan.instructions.items (plan_of p s)
  pub fields : plan.fields.items ≡ group_lines p s.groups
