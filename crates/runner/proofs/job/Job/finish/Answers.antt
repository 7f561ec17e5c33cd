-- Proofs of `finish`, src/job.rt.
use Rattle.std.proofs.Common.{◌∙◌, ap, sym, subst}
use Rattle.std.specs.Arc.{arc_value}
use Rattle.flat_snapshot.specs.Digraph.{Digraph}
use Rattle.plans.specs.declared.plan.Plan.{Plan}
use Rattle.plans.specs.Machine.{Configuration, steps}
use Rattle.plans.specs.Plan.{plan_of}
use Rattle.plans.specs.PlanOf.{IsPlan}
use Rattle.run_state.specs.State.{graph_value}
use Rattle.runner.specs.inside.Position.{RestsLater, configuration_of}
use Rattle.runner.specs.Resting.{JobValue, job_value}
use Rattle.runner.proofs.Resting.{steps_resting}
use Rattle.runner.proofs.job.Job.finish.Goals as goal

pub returns-clause-steps : goal.returns-clause-steps
returns-clause-steps over c = λ p s planned reduces.
    let inside = c.self.inside in
    let view = c.self.view_is in
    let plan = arc_value inside.plan in
    let graph = arc_value inside.graph in
    let old = configuration_of inside.run in
    let new = configuration_of c.run_to_end.new.self in
    let here : IsPlan plan p s = subst (λ (j : JobValue). IsPlan j.plan p s) (sym view) planned in
    let there = c.run_to_end.ensures.steps p s (subst (λ (q : Plan). IsPlan q p s) (sym c.deref.ensures) here) reduces in
    let later : RestsLater plan p s (graph_value graph) old new =
    subst (λ (g : Digraph). RestsLater plan p s (graph_value g) old new) c.deref-2.ensures
    (subst (λ (q : Plan). RestsLater q p s (graph_value c.deref-2.result.now) old new) c.deref.ensures there) in
    record {
      count = later.count;
      is =
          ap (λ (d : Configuration). record { plan = plan; graph = graph; turns = inside.turns; stands = d })
          (later.is ∙ sym (steps_resting p (graph_value graph) plan s here later.count old))
          ∙ ap (λ (j : JobValue). job_value j.plan j.graph j.turns (steps p (graph_value j.graph) (plan_of p s) later.count j.stands)) view;
    }
