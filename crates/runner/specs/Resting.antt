-- Jobs, and the configuration at which one rests between two steps.
use Rattle.std.specs.Prelude.{◌≡◌, ℕ, List, Option, Some, None, slice_get}
use Rattle.typed_tree.specs.ProgramTree.{ProgramTree}
use Rattle.algorithm_meaning.specs.State.{StateValue}
use Rattle.algorithm_meaning.specs.declared.state.LoopCounter.{LoopCounter}
use Rattle.plans.specs.declared.instruction.Instruction.{Instruction}
use Rattle.plans.specs.declared.plan.Plan.{Plan}
use Rattle.algorithm_meaning.specs.Loop.{forget_beyond}
use Rattle.apply_options.specs.ScheduleTree.{ScheduleTree}
use Rattle.plans.specs.Machine.{Configuration, At, Ended, steps}
use Rattle.plans.specs.Plan.{plan_of}
use Rattle.flat_snapshot.specs.Digraph.{Digraph}
use Rattle.run_state.specs.State.{graph_value}

-- a run before an instruction, without what that does not see
abbrev pub kept_at : Option Instruction → (index : ℕ) → List LoopCounter → StateValue → Configuration
kept_at None index loops s = At index loops s
kept_at (Some i) index loops s = At index loops (forget_beyond i.keep s)

abbrev pub resting : List Instruction → Configuration → Configuration
resting is (At index loops s) = kept_at (slice_get is index) index loops s
resting is (Ended s end) = Ended s end

-- a run of a plan on a graph, for at most n turns, and where it stands
pub record JobValue : Type 0 where
  pub plan : Plan
  pub graph : Digraph
  pub turns : ℕ
  pub stands : Configuration

abbrev pub job_value : Plan → Digraph → (turns : ℕ) → Configuration → JobValue
job_value plan graph turns c = record { plan = plan; graph = graph; turns = turns; stands = resting plan.instructions.items c }

-- the run has the same plan, graph and bound, and is where its machine is after some number of steps more
pub record HasStepped (p : ProgramTree) (s : ScheduleTree) (old new : JobValue) : Type 0 where
  pub count : ℕ
  pub is : new ≡ job_value old.plan old.graph old.turns (steps p (graph_value old.graph) (plan_of p s) count old.stands)
