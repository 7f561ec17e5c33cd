-- Of which program a plan is.
use Rattle.apply_options.specs.ScheduleTree.{ScheduleTree}
use Rattle.typed_tree.specs.ProgramTree.{ProgramTree, program_tree}
use Rattle.plans.specs.declared.plan.Plan.{Plan}
use Rattle.plans.specs.Plan.{plan, ArePartsOf, plan_of}
use Rattle.plans.specs.Reducing.{AppliesReduce}

-- the plan is that of a program under a schedule
abbrev pub IsPlan : Plan → ProgramTree → ScheduleTree → Type 0
IsPlan plan p s = ArePartsOf plan.instructions.items plan.functions plan.vectors.items plan.sets.items plan.names.items plan.groups.items p s

-- the program that a plan is of
abbrev pub program_of : Plan → ProgramTree
program_of plan = program_tree plan.program.value

-- the plan is that of its program under a schedule, and each edge apply of it gives a vector numbers by one reduction: what a run asks for
pub record IsCompiled (plan : Plan) : Type 0 where
  pub schedule : ScheduleTree
  pub planned : IsPlan plan (program_of plan) schedule
  pub reducing : AppliesReduce (program_of plan) (plan_of (program_of plan) schedule)
