-- Proofs of `step`, src/job.rt.
use Rattle.std.proofs.Common.{◌∙◌, Result, Ok, Err, OnOk, ap, sym, subst}
use Rattle.std.specs.Arc.{arc_value}
use Rattle.plans.specs.declared.plan.Plan.{Plan}
use Rattle.plans.specs.Machine.{Configuration, step}
use Rattle.plans.specs.Plan.{plan_of}
use Rattle.plans.specs.PlanOf.{IsPlan}
use Rattle.run_state.specs.State.{graph_value}
use Rattle.flat_snapshot.specs.Digraph.{Digraph}
use Rattle.runner.specs.inside.Position.{configuration_of}
use Rattle.runner.specs.Resting.{JobValue, job_value}
use Rattle.runner.proofs.Resting.{step_resting}
use Rattle.runner.proofs.job.Job.step.Goals as goal

-- what holds anyway
anyway : {A E : Type 0} (P : Type 0) (r : Result A E) → P → OnOk r P
anyway P (Ok a) h = h
anyway P (Err e) h = tt

pub returns-clause-steps : goal.returns-clause-steps
returns-clause-steps over c =
    let inside = c.self.inside in
    let view = c.self.view_is in
    let plan = arc_value inside.plan in
    let graph = arc_value inside.graph in
    let old = configuration_of inside.run in
    anyway _ c.match-self.result (λ p s planned reduces.
    let here : IsPlan plan p s = subst (λ (j : JobValue). IsPlan j.plan p s) (sym view) planned in
    let stepped = c.in_ok-step.ensures.steps p s (subst (λ (q : Plan). IsPlan q p s) (sym c.deref.ensures) here) reduces in
    ap (λ (d : Configuration). job_value plan graph inside.turns d)
    (stepped ∙ (ap (λ (g : Digraph). step p (graph_value g) (plan_of p s) old) c.deref-2.ensures
    ∙ sym (step_resting p (graph_value graph) plan s here old)))
    ∙ ap (λ (j : JobValue). job_value j.plan j.graph j.turns (step p (graph_value j.graph) (plan_of p s) j.stands)) view)
