-- Proofs of `outcome`, src/job.rt.
use Rattle.std.proofs.Common.{◌∙◌, ap, sym, subst}
use Rattle.std.specs.Arc.{arc_value}
use Rattle.plans.specs.declared.plan.Plan.{Plan}
use Rattle.plans.specs.Plan.{plan_of}
use Rattle.plans.specs.PlanOf.{IsPlan}
use Rattle.runner.specs.inside.Position.{configuration_of}
use Rattle.runner.specs.Position.{outcome_so_far}
use Rattle.runner.specs.Resting.{JobValue}
use Rattle.runner.proofs.Resting.{outcome_resting}
use Rattle.runner.proofs.Showing.{if_ok}
use Rattle.runner.proofs.job.Job.outcome.Goals as goal

pub returns : goal.returns
returns c =
    let inside = c.self.inside in
    let view = c.self.view_is in
    let plan = arc_value inside.plan in
    if_ok _ _ c.show.result (λ o is p s planned.
    let here : IsPlan plan p s = subst (λ (j : JobValue). IsPlan j.plan p s) (sym view) planned in
    is p s (subst (λ (q : Plan). IsPlan q p s) (sym c.deref.ensures) here)
    ∙ (sym (outcome_resting p inside.turns plan s here (configuration_of inside.run))
    ∙ ap (λ (j : JobValue). outcome_so_far p j.turns (plan_of p s) j.stands) view)) c.show.ensures
