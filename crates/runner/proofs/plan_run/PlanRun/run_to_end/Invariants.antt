use Rattle.std.proofs.Common.{◌≡◌}
use Rattle.typed_tree.specs.ProgramTree.{ProgramTree}
use Rattle.apply_options.specs.ScheduleTree.{ScheduleTree}
use Rattle.plans.specs.Plan.{plan_of}
use Rattle.plans.specs.PlanOf.{IsPlan}
use Rattle.plans.specs.Reducing.{AppliesReduce}
use Rattle.run_state.specs.State.{graph_value}
use Rattle.runner.specs.inside.Groups.{AreGroupsOf}
use Rattle.runner.specs.inside.Position.{configuration_of, steps_left}
use Rattle.runner.proofs.Running.{IsReached}
use Rattle.runner.proofs.plan_run.PlanRun.run_to_end.Given as goal

-- the run is on the graph, its vectors are grouped as the plan says, the machine goes there from where the run began, and the applier
-- knows its vectors
abbrev pub invariant-steps : goal.invariant-steps
invariant-steps g l = record {
  on : l.self.memory.state.vertices ≡ l.graph.vertices;
  groups : AreGroupsOf l.plan l.graph l.self.memory.state.groups;
  reached : (p : ProgramTree) (s : ScheduleTree) → IsPlan l.plan p s → AppliesReduce p (plan_of p s)
      → IsReached p (graph_value l.graph) (plan_of p s) (configuration_of l.initial.self) (configuration_of l.self);
  applier : g.E.EdgeApplier.is_ready l.by l.plan.functions l.graph;
  knows : g.E.EdgeApplier.knows l.by l.self.memory.state.state.vectors;
}

abbrev pub decreases-steps : goal.decreases-steps
decreases-steps g l = steps_left l.plan l.self
