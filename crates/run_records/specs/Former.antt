-- The record of a former run, for a run of the same plan on another version of its graph.
use Rattle.std.specs.Prelude.{◌≡◌}
use Rattle.std.specs.Arc.{arc_value}
use Rattle.flat_snapshot.specs.Digraph.{Digraph}
use Rattle.edge_differences.specs.Listed.{AreSameBut}
use Rattle.plans.specs.declared.plan.Plan.{Plan}
use Rattle.run_records.specs.declared.recorded_run.FormerRecord.{FormerRecord}

-- the record is of this plan, and its graph has as many vertices as this one and, but for the listed ones, the same edges
pub record IsFormerOf (plan : Plan) (graph : Digraph) (former : FormerRecord) : Type 0 where
  pub of : arc_value former.run_record.now.plan ≡ plan
  pub vertices : (arc_value former.run_record.now.graph).vertices ≡ graph.vertices
  pub edges : AreSameBut former.edges.now graph.edges (arc_value former.run_record.now.graph).edges
