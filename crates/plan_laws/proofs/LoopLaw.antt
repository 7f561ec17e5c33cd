-- The counters of loops are variables, in each configuration that a run of a plan reaches.
use Rattle.std.proofs.Common.{ℕ, refl}
use Rattle.typed_tree.specs.ProgramTree.{ProgramTree}
use Rattle.apply_options.specs.ScheduleTree.{ScheduleTree}
use Rattle.algorithm_meaning.specs.State.{GraphValue}
use Rattle.algorithm_meaning.specs.Meaning.{initial_state}
use Rattle.plans.specs.Machine.{first_configuration, steps}
use Rattle.plans.specs.Plan.{main_depth, plan_of}
use Rattle.type_laws.specs.LoopVariables.{KeepsLoopVariables}
use Rattle.plan_laws.specs.LoopCounters.{CountersAreVariables}
use Rattle.plan_laws.proofs.AroundInstructions.{plan_entry, plan_local, table_of}
use Rattle.plan_laws.proofs.Counting.{starts, stays_counted, steps_stay}

pub counters_are_variables : (p : ProgramTree) (s : ScheduleTree) → KeepsLoopVariables p → (g : GraphValue) (turns count : ℕ)
    → CountersAreVariables (plan_of p s) (steps p g (plan_of p s) count (first_configuration (initial_state p g turns)))
counters_are_variables p s keeps g turns count =
    let code = plan_of p s in
    let table = table_of p s in
    let all = plan_local p s keeps in
    let start = first_configuration (initial_state p g turns) in
    stays_counted p g code table all (steps p g code count start)
    (steps_stay p g code table all count start (starts p g code table all (initial_state p g turns) (main_depth p).integers (plan_entry p s keeps) refl))
