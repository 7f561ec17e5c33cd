-- Proofs of `accept`, src/calls.rt.
use Rattle.std.proofs.Common.{ap, subst, ◌∙◌, ℕ, List, map}
use Rattle.std.specs.Prelude.{Result, Err}
use Rattle.typed_tree.specs.declared.program.Typed.{Typed}
use Rattle.typed_tree.specs.declared.program.ScheduleCall.{ScheduleCall}
use Rattle.typed_tree.specs.ProgramTree.{ProgramTree, call_tree, program_tree}
use Rattle.schedule.specs.declared.error.ScheduleRule.{ScheduleRule}
use Rattle.schedule.specs.declared.error.ScheduleError.{ScheduleError}
use Rattle.schedule.specs.declared.error.ScheduleError.TheVariants.{Faulty, NoMemory}
use Rattle.schedule.specs.Calls.{Accepts, schedule_of, with_calls}
use Rattle.schedule.specs.inside.Putting.{PutsAll}
use Rattle.apply_options.specs.ScheduleTree.{ScheduleTree}
use Rattle.schedule.specs.Schedule.{empty_schedule}
use Rattle.schedule.proofs.calls.accept.Goals as goal

refuses : (p : ProgramTree) (error : ScheduleError) (new : ScheduleTree) → PutsAll {T = Unit {0}} (schedule_of p) (Err error) new → Accepts p (Err error)
refuses p (Faulty rule at) new told = told
refuses p NoMemory new told = tt

pub returns : goal.returns
returns c =
    let tables = c.in_ok-tables.tables in
    let same =
    ap (λ (s : ScheduleTree). with_calls (program_tree tables.program.now) (map call_tree c.deref.result.now) s) c.new-schedule.ensures
    ∙ (ap (λ (calls : List ScheduleCall). with_calls (program_tree tables.program.now) (map call_tree calls) empty_schedule) c.deref.ensures.value
    ∙ ap (λ (program : Typed). with_calls (program_tree program) (map call_tree c.args.program.now.schedule.items) empty_schedule) c.in_ok-tables.ensures) in
    refuses (program_tree c.args.program.now) c.in-Err.error c.put_calls.new.schedule
    (subst (λ (outcome : Result ScheduleTree (ScheduleRule × ℕ)). PutsAll {T = Unit {0}} outcome (Err c.in-Err.error) c.put_calls.new.schedule) same c.in-Err.ensures)
