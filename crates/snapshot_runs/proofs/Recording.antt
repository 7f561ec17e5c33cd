-- A run on the newest version, and its record.
use Rattle.std.proofs.Common.{◌≡◌, ℕ, Option, Some, None, IfSome, IfOk, Result, Ok, Err, List, sym, ◌∙◌, subst}
use Rattle.std.specs.Arc.{arc_value}
use Rattle.algorithm_meaning.specs.declared.outcome.Outcome.{Outcome}
use Rattle.algorithm_meaning.specs.Meaning.{meaning}
use Rattle.apply_options.specs.ScheduleTree.{ScheduleTree}
use Rattle.typed_tree.specs.ProgramTree.{ProgramTree}
use Rattle.flat_snapshot.specs.Digraph.{Digraph}
use Rattle.plans.specs.declared.plan.Plan.{Plan}
use Rattle.plans.specs.Plan.{plan_of}
use Rattle.plans.specs.PlanOf.{IsPlan, program_of}
use Rattle.plans.specs.Reducing.{AppliesReduce}
use Rattle.run_state.specs.State.{graph_value}
use Rattle.run_records.specs.declared.recorded_run.RecordedRun.{RecordedRun}
use Rattle.run_records.specs.declared.run_record.RunRecord.{RunRecord}
use Rattle.version_list.specs.Machine.{opened}
use Rattle.version_list.specs.Timeline.{IsLegal}
use Rattle.shared_graph.specs.declared.entry.Entry.{Entry}
use Rattle.shared_graph.specs.Histories.{state_at, steps_of, IsNewest, IsVersionOf}
use Rattle.shared_graph.proofs.Versions.{newest_is}
use Rattle.snapshot_runs.specs.Outcome.{IsOutcomeOn}
use Rattle.snapshot_runs.specs.inside.Recorded.{IsRecordedOn, IsRecordedRun}
use Rattle.snapshot_runs.proofs.Beside.{newest_version}

-- what a run means for each program of its plan it means for that of a compiled plan
pub outcome_on : (plan : Plan) (graph : Digraph) (turns : ℕ) (o : Outcome)
    → ((p : ProgramTree) (s : ScheduleTree) → IsPlan plan p s → AppliesReduce p (plan_of p s) → o ≡ meaning p (graph_value graph) turns) → IsOutcomeOn plan graph turns o
outcome_on plan graph turns o means of = means (program_of plan) of.schedule of.planned of.reducing

kept_of : (n : ℕ) (plan : Plan) (shown : List Entry) (number : ℕ) (graph flat : Digraph) (o : Option RunRecord) → IsVersionOf n shown number graph → flat ≡ graph
    → IfSome o (λ made. (arc_value made.plan ≡ plan) × (arc_value made.graph ≡ flat)) → IfSome o (λ made. (arc_value made.plan ≡ plan) × IsVersionOf n shown number (arc_value made.graph))
kept_of n plan shown number graph flat None is same kept = tt
kept_of n plan shown number graph flat (Some made) is same kept = (kept.0, subst (IsVersionOf n shown number) (sym (kept.1 ∙ same)) is)

pub recorded_run : (n room turns : ℕ) (plan : Plan) (shown : List Entry) (number : ℕ) (graph flat : Digraph) (run : RecordedRun) → IsLegal (opened n room) (steps_of shown)
    → IsNewest (state_at (opened n room) shown) number graph → flat ≡ graph → IsOutcomeOn plan flat turns run.outcome
    → IfSome run.run_record (λ made. (arc_value made.plan ≡ plan) × (arc_value made.graph ≡ flat)) → IsRecordedRun n plan turns shown number run
recorded_run n room turns plan shown number graph flat run legal newest same means kept =
    let is = newest_is n room shown number graph legal newest in
    record {
      number = is.0;
      outcome = subst (λ (d : Digraph). IsOutcomeOn plan d turns run.outcome) (same ∙ is.1) means;
      recorded = kept_of n plan shown number graph flat run.run_record (newest_version n room shown number graph legal newest) same kept;
    }

on_graph : {E : Type 0} (plan : Plan) (graph : Digraph) (turns : ℕ) (r : Result RecordedRun E) → IfOk r (λ run. IsOutcomeOn plan graph turns run.outcome)
    → IfOk r (λ run. IfSome run.run_record (λ made. (arc_value made.plan ≡ plan) × (arc_value made.graph ≡ graph))) → IfOk r (IsRecordedOn plan graph turns)
on_graph plan graph turns (Ok run) means kept = record { outcome = means; recorded = kept }
on_graph plan graph turns (Err e) means kept = tt

-- a run on a graph, which is this one
pub recorded_on : {E : Type 0} (plan : Plan) (graph flat : Digraph) (turns : ℕ) (r : Result RecordedRun E) → flat ≡ graph → IfOk r (λ run. IsOutcomeOn plan flat turns run.outcome)
    → IfOk r (λ run. IfSome run.run_record (λ made. (arc_value made.plan ≡ plan) × (arc_value made.graph ≡ flat))) → IfOk r (IsRecordedOn plan graph turns)
recorded_on plan graph flat turns r same means kept = subst (λ (g : Digraph). IfOk r (IsRecordedOn plan g turns)) same (on_graph plan flat turns r means kept)
