-- Runs that are recorded.
use Rattle.std.specs.Prelude.{◌≡◌, ℕ, IfSome, List, length}
use Rattle.std.specs.Arc.{arc_value}
use Rattle.flat_snapshot.specs.Digraph.{Digraph}
use Rattle.plans.specs.declared.plan.Plan.{Plan}
use Rattle.run_records.specs.declared.recorded_run.RecordedRun.{RecordedRun}
use Rattle.shared_graph.specs.declared.entry.Entry.{Entry}
use Rattle.shared_graph.specs.Histories.{batches_of, fold_of, IsVersionOf}
use Rattle.snapshot_runs.specs.Outcome.{IsOutcomeOn}

-- a run of the plan on the newest version of the history shown, and its record, if it has one, is of this plan and this version
pub record IsRecordedRun (n : ℕ) (plan : Plan) (turns : ℕ) (shown : List Entry) (version : ℕ) (run : RecordedRun) : Type 0 where
  pub number : version ≡ length (batches_of shown)
  pub outcome : IsOutcomeOn plan (fold_of n shown) turns run.outcome
  pub recorded : IfSome run.run_record (λ made. (arc_value made.plan ≡ plan) × IsVersionOf n shown version (arc_value made.graph))

-- a run of the plan on the graph, and its record, if it has one, is of this plan and this graph
pub record IsRecordedOn (plan : Plan) (graph : Digraph) (turns : ℕ) (run : RecordedRun) : Type 0 where
  pub outcome : IsOutcomeOn plan graph turns run.outcome
  pub recorded : IfSome run.run_record (λ made. (arc_value made.plan ≡ plan) × (arc_value made.graph ≡ graph))
