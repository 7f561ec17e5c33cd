-- Texts whose schedule is refused, and texts that have a plan.
use Rattle.std.proofs.Common.{◌≡◌, subst, ℕ, List, length, Ok, Err}
use Rattle.schedule.specs.ProgramTree.{ProgramTree}
use Rattle.parser.specs.Outcome.{IsSource}
use Rattle.parser.specs.SourceTrees.{SourceTree}
use Rattle.types.specs.Program.{Checks}
use Rattle.schedule.specs.Calls.{Accepts}
use Rattle.schedule.specs.declared.error.ScheduleError.{ScheduleError}
use Rattle.schedule.specs.declared.error.ScheduleError.TheVariants.{Faulty, NoMemory}
use Rattle.schedule.specs.ScheduleTree.{ScheduleTree}
use Rattle.plans.specs.declared.plan.Plan.{Plan}
use Rattle.plans.specs.Plan.{plan_of}
use Rattle.plans.specs.PlanOf.{IsPlan, program_of}
use Rattle.plans.specs.Reducing.{AppliesReduce}
use Rattle.lowering.specs.Text.{HasText}
use Rattle.compiler.specs.Outcome.{Compiles, IsTyped}
use Rattle.compiler.specs.inside.Refusal.{of_schedule}

pub is_typed : (text : List ℕ) (source : SourceTree) (len : ℕ) (program : ProgramTree) → len ≡ length text → IsSource text source → Checks source len (Ok program) → IsTyped text program
is_typed text source len program long parsed typed =
    record { source = source; parsed = parsed; typed = subst (λ n. Checks source n (Ok program)) long typed }

pub refused : (text : List ℕ) (program : ProgramTree) (e : ScheduleError) → IsTyped text program → Accepts program (Err e) → Compiles text (Err (of_schedule e))
refused text program (Faulty rule at) typed told = record { program = program; typed = typed; told = told }
refused text program NoMemory typed told = tt

-- a plan of a text's program under its schedule is that of the text
pub planned : (text : List ℕ) (plan : Plan) (q : ProgramTree) (s : ScheduleTree) → program_of plan ≡ q → IsTyped text q → Accepts q (Ok s) → IsPlan plan q s → HasText plan q s
    → AppliesReduce q (plan_of q s) → Compiles text (Ok plan)
planned text plan q s same typed accepted is written reducing =
    subst (λ (r : ProgramTree). IsTyped text r → Accepts r (Ok s) → IsPlan plan r s → HasText plan r s → AppliesReduce r (plan_of r s) → Compiles text (Ok plan)) same
    (λ typed accepted is written reducing. record { schedule = s; typed = typed; accepted = accepted; planned = is; written = written; reducing = reducing })
    typed accepted is written reducing
