-- What a recorded run shows, by the values of its plan and of its graph.
use Rattle.std.proofs.Common.{◌≡◌, ℕ, Result, IfOk, subst}
use Rattle.algorithm_meaning.specs.Meaning.{meaning}
use Rattle.apply_options.specs.ScheduleTree.{ScheduleTree}
use Rattle.flat_snapshot.specs.Digraph.{Digraph}
use Rattle.plans.specs.declared.plan.Plan.{Plan}
use Rattle.plans.specs.Plan.{plan_of}
use Rattle.plans.specs.PlanOf.{IsPlan}
use Rattle.plans.specs.Reducing.{AppliesReduce}
use Rattle.run_state.specs.State.{graph_value}
use Rattle.typed_tree.specs.ProgramTree.{ProgramTree}
use Rattle.run_records.specs.declared.recorded_run.RecordedRun.{RecordedRun}

-- a run shows what the program of the plan means on the graph within n turns
abbrev pub ShowsMeaningOf : {E : Type 0} → Result RecordedRun E → Plan → Digraph → (turns : ℕ) → Type 0
ShowsMeaningOf run plan graph turns = IfOk run (λ r. (p : ProgramTree) (s : ScheduleTree) → IsPlan plan p s → AppliesReduce p (plan_of p s)
    → r.outcome ≡ meaning p (graph_value graph) turns)

-- so it does for a plan and a graph of the same value
pub shown_of_same : {E : Type 0} (run : Result RecordedRun E) (plan other : Plan) (graph other_graph : Digraph) (turns : ℕ) → other ≡ plan → other_graph ≡ graph
    → ShowsMeaningOf run other other_graph turns → ShowsMeaningOf run plan graph turns
shown_of_same run plan other graph other_graph turns same same_graph shows =
    subst (λ (q : Plan). ShowsMeaningOf run q graph turns) same (subst (λ (h : Digraph). ShowsMeaningOf run other h turns) same_graph shows)
