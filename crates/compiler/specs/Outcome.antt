-- Answers to compiling a text: its plan, or the first refusal.
use Rattle.std.specs.Prelude.{◌≡◌, ℕ, ◌≤◌, List, length, Result, Ok, Err, IfSome}
use Rattle.parser.specs.SourceTrees.{SourceTree}
use Rattle.parser.specs.Outcome.{Answers, IsSource}
use Rattle.parser.specs.declared.error.ParseError.TheVariants as parser
use Rattle.expression_types.specs.declared.fault.Fault.{Fault}
use Rattle.types.specs.Program.{Checks}
use Rattle.schedule.specs.ProgramTree.{ProgramTree}
use Rattle.schedule.specs.Calls.{schedule_of}
use Rattle.schedule.specs.ScheduleTree.{ScheduleTree}
use Rattle.schedule.specs.declared.error.ScheduleRule.{ScheduleRule}
use Rattle.plans.specs.declared.plan.Plan.{Plan}
use Rattle.plans.specs.Plan.{plan_of}
use Rattle.plans.specs.PlanOf.{IsPlan, program_of}
use Rattle.plans.specs.Reducing.{AppliesReduce}
use Rattle.lowering.specs.Text.{HasText}
use Rattle.compiler.specs.declared.error.CompileError.{CompileError}
use Rattle.compiler.specs.Refusal.{offset_of}
use Rattle.compiler.specs.declared.error.CompileError.TheVariants.{NotParsed, NotTyped, NotScheduled, NoMemory}

-- the text is a source, which has this program by the rules of types
pub record IsTyped (text : List ℕ) (program : ProgramTree) : Type 0 where
  pub source : SourceTree
  pub parsed : IsSource text source
  pub typed : Checks source (length text) (Ok program)

-- The text is the program of this plan, and the program's schedule is accepted; the plan is the program's under that schedule, and
-- has its text. Whatever the state of a run, each edge apply of the plan gives a vector numbers by one reduction.
pub record IsPlanOfText (text : List ℕ) (plan : Plan) : Type 0 where
  pub schedule : ScheduleTree
  pub typed : IsTyped text (program_of plan)
  pub accepted : schedule_of (program_of plan) ≡ Ok schedule
  pub planned : IsPlan plan (program_of plan) schedule
  pub written : HasText plan (program_of plan) schedule
  pub reducing : AppliesReduce (program_of plan) (plan_of (program_of plan) schedule)

-- the text is this program, and its schedule is accepted
pub record IsProgram (text : List ℕ) (program : ProgramTree) : Type 0 where
  pub typed : IsTyped text program
  pub schedule : ScheduleTree
  pub accepted : schedule_of program ≡ Ok schedule

-- the text is a source, of whose faults this one is reported
pub record HasFault (text : List ℕ) (fault : Fault) : Type 0 where
  pub source : SourceTree
  pub parsed : IsSource text source
  pub told : Checks source (length text) (Err fault)

-- the text is a program, of whose schedule the first faulty call is this one
pub record HasFaultyCall (text : List ℕ) (rule : ScheduleRule) (at : ℕ) : Type 0 where
  pub program : ProgramTree
  pub typed : IsTyped text program
  pub told : schedule_of program ≡ Err (rule, at)

-- The answer is right for the text. Nothing is said if memory runs out.
abbrev pub Compiles : List ℕ → Result Plan CompileError → Type 0
Compiles text (Ok plan) = IsPlanOfText text plan
Compiles text (Err (NotParsed parser.NoMemory)) = ⊥
Compiles text (Err (NotParsed e)) = Answers text (Err e)
Compiles text (Err (NotTyped fault)) = HasFault text fault
Compiles text (Err (NotScheduled rule at)) = HasFaultyCall text rule at
Compiles text (Err NoMemory) = Unit {0}

-- the offset of a refusal is one of the text, or its length
abbrev pub StandsIn : List ℕ → CompileError → Type 0
StandsIn text error = IfSome (offset_of error) (λ at. at ≤ length text)
