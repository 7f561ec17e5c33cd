-- Beside `Programs`: definitions that no public contract cites.
use Rattle.std.specs.Prelude.{◌≡◌, ℕ, List, Option, Some, None, IfSome, map, slice_get}
use Rattle.std.specs.Arc.{arc_value}
use Rattle.flat_snapshot.specs.Digraph.{Digraph}
use Rattle.plans.specs.declared.plan.Plan.{Plan}
use Rattle.plans.specs.PlanOf.{program_of, IsCompiled}
use Rattle.run_records.specs.declared.recorded_run.FormerRecord.{FormerRecord}
use Rattle.run_records.specs.declared.recorded_run.RecordedRun.{RecordedRun}
use Rattle.run_records.specs.declared.run_record.RunRecord.{RunRecord}
use Rattle.run_records.specs.Former.{IsFormerOf}
use Rattle.version_records.specs.declared.version_records.Predecessor.{Predecessor}
use Rattle.scripts.specs.Replies.{meaning_on}
use Rattle.driver.specs.declared.compiled_plan.CompiledPlan.{CompiledPlan}
use Rattle.driver.specs.declared.programs.RunOrder.{RunOrder}

-- if the order names a former run, that is one of its plan, and its edges are those in which the graphs differ
abbrev pub MayFollow : RunOrder → Type 0
MayFollow order = IfSome order.former (IsFormerOf (arc_value order.plan.now) (arc_value order.graph.now))

-- the record is that of a run of this plan on this graph
abbrev pub IsRecordOfRun : Plan → Digraph → RunRecord → Type 0
IsRecordOfRun plan graph r = (arc_value r.plan ≡ plan) × (arc_value r.graph ≡ graph)

-- a run shows what the program of the plan means, where that was compiled, and its record is one of this plan and graph
pub record ShowsRun (order : RunOrder) (run : RecordedRun) : Type 0 where
  pub shows : ∥ IsCompiled (arc_value order.plan.now) ∥₁ → run.outcome ≡ meaning_on (arc_value order.graph.now) (program_of (arc_value order.plan.now)) order.turns
  pub kept : IfSome run.run_record (IsRecordOfRun (arc_value order.plan.now) (arc_value order.graph.now))

-- the record is that of a run of the plan at an index on a graph
pub record IsRecordOfProgram (plans : List CompiledPlan) (index : ℕ) (r : RunRecord) (graph : Digraph) : Type 0 where
  pub plan : slice_get (map (λ c. arc_value c.plan) plans) index ≡ Some (arc_value r.plan)
  pub on : arc_value r.graph ≡ graph

-- both are missing, or both have one run record and one list of edges
abbrev pub AreSameFormer : Option (Predecessor RunRecord) → Option FormerRecord → Type 0
AreSameFormer None None = Unit {0}
AreSameFormer None (Some f) = ⊥
AreSameFormer (Some p) None = ⊥
AreSameFormer (Some p) (Some f) = (f.run_record.now ≡ p.run_record.now) × (f.edges.now ≡ p.edges.items)
