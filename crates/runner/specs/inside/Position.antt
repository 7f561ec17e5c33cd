-- Beside `Position`: definitions that no public contract cites.
use Rattle.std.specs.Prelude.{ℕ, List, Option, Some, None, reverse, ◌≡◌, slice_get}
use Rattle.typed_tree.specs.ProgramTree.{ProgramTree}
use Rattle.algorithm_meaning.specs.declared.outcome.End.{End}
use Rattle.algorithm_meaning.specs.State.{StateValue, GraphValue}
use Rattle.algorithm_meaning.specs.declared.state.LoopCounter.{LoopCounter}
use Rattle.algorithm_meaning.specs.declared.state.Depth.{Depth}
use Rattle.algorithm_meaning.specs.Loop.{forget_beyond}
use Rattle.algorithm_meaning.specs.Meaning.{shown}
use Rattle.apply_options.specs.ScheduleTree.{ScheduleTree}
use Rattle.plans.specs.Machine.{Configuration, At, Ended, steps}
use Rattle.plans.specs.Plan.{plan_of}
use Rattle.plans.specs.Instruction.{InstructionTree}
use Rattle.plans.specs.inside.Outline.{most_steps_of}
use Rattle.plans.specs.declared.plan.Plan.{Plan}
use Rattle.runner.specs.declared.memory.Memory.{Memory}
use Rattle.runner.specs.declared.plan_run.PlanRun.{PlanRun}
use Rattle.runner.specs.Resting.{resting}

-- before the instruction at an index, or at an end
abbrev pub position : Option End → (index : ℕ) → List LoopCounter → StateValue → Configuration
position None index loops s = At index loops s
position (Some end) index loops s = Ended s end

-- the loops around the index, the innermost first
abbrev pub loops_of : Memory → List LoopCounter
loops_of m = reverse m.loops.items

abbrev pub configuration_of : PlanRun → Configuration
configuration_of r = position r.end r.index (loops_of r.memory) r.memory.state.state

-- the run is on a graph of n vertices
abbrev pub IsOn : GraphValue → Memory → Type 0
IsOn g m = m.state.vertices ≡ g.vertices

abbrev pub IsShownWhere : Option InstructionTree → StateValue → Depth → Type 0
IsShownWhere None s d = forget_beyond d s ≡ s
IsShownWhere (Some i) s d = d ≡ i.shown

-- to forget what is beyond this leaves what such a run shows
abbrev pub IsShown : List InstructionTree → Configuration → Depth → Type 0
IsShown plan (At index loops s) d = IsShownWhere (slice_get plan index) s d
IsShown plan (Ended s end) d = forget_beyond d s ≡ s

-- so many steps a run takes at most from here
abbrev pub steps_left : Plan → PlanRun → ℕ
steps_left plan r = most_steps_of plan.instructions.items (configuration_of r)

-- a run of a plan rests where its machine does after some number of steps more
pub record RestsLater (plan : Plan) (p : ProgramTree) (s : ScheduleTree) (g : GraphValue) (old new : Configuration) : Type 0 where
  pub count : ℕ
  pub is : resting plan.instructions.items new ≡ resting plan.instructions.items (steps p g (plan_of p s) count old)
