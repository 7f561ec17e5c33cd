-- Proofs of `run_to_end`, src/plan_run.rt.
use Rattle.std.proofs.Common.{◌∙◌, sym, subst}
use Rattle.plans.specs.Plan.{plan_of}
use Rattle.run_state.specs.State.{graph_value}
use Rattle.runner.specs.inside.Groups.{AreGroupsOf}
use Rattle.runner.specs.inside.Position.{configuration_of}
use Rattle.runner.proofs.Resting.{rests_later}
use Rattle.runner.proofs.Running.{reached_itself, reached_next}
use Rattle.runner.proofs.plan_run.PlanRun.run_to_end.Goals as goal

pub steps-init : goal.steps-init
steps-init over c = record {
  on = c.requires.graph;
  groups = c.requires.groups;
  reached = λ p s plan reduces. reached_itself p (graph_value c.args.graph.now) (plan_of p s) (configuration_of c.args.self.now);
  applier = c.forget_vectors.ensures.ready c.args.plan.now.functions c.args.graph.now c.requires.applier;
  knows = c.forget_vectors.ensures.knows c.args.self.now.memory.state.state.vectors;
}

pub steps-preserved : goal.steps-preserved
steps-preserved over c = record {
  on = c.step.ensures.vertices ∙ c.steps.invariant.on;
  groups = subst (AreGroupsOf c.args.plan.now c.args.graph.now) (sym c.step.ensures.groups) c.steps.invariant.groups;
  reached = λ p s plan reduces. reached_next p (graph_value c.args.graph.now) (plan_of p s) (configuration_of c.args.self.now) (configuration_of c.steps.self) (configuration_of c.step.new.self)
      (c.steps.invariant.reached p s plan reduces) (c.in_ok-step.ensures.steps p s plan reduces);
  applier = c.step.ensures.applier;
  knows = c.in_ok-step.ensures.knows;
}

pub returns-in-Some-clause-steps : goal.returns-in-Some-clause-steps
returns-in-Some-clause-steps over c = λ p s plan reduces.
    rests_later c.args.plan.now p s (graph_value c.args.graph.now) (configuration_of c.args.self.now) (configuration_of c.steps.self) (c.steps.invariant.reached p s plan reduces)
