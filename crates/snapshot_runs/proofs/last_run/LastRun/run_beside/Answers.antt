-- Proofs of `run_beside`, src/last_run.rt.
use Rattle.std.proofs.Common.{subst}
use Rattle.std.proofs.lemmas.Result.{IfOk-weaker}
use Rattle.std.specs.Arc.{arc_value}
use Rattle.plans.specs.declared.plan.Plan.{Plan}
use Rattle.snapshot_runs.specs.Outcome.{IsOutcomeOn}
use Rattle.snapshot_runs.proofs.Recording.{outcome_on}
use Rattle.snapshot_runs.proofs.last_run.LastRun.run_beside.Goals as goal

pub returns-in-Some-clause-means : goal.returns-in-Some-clause-means
returns-in-Some-clause-means g c =
    let graph = arc_value c.args.graph.now in
    IfOk-weaker c.run_with_record.result _ _
    (λ r means. subst (λ (p : Plan). IsOutcomeOn p graph c.args.turns r.outcome) c.plan-plan.ensures (outcome_on (arc_value c.plan-plan.result.now) graph c.args.turns r.outcome means))
    c.run_with_record.ensures.means

pub returns-in_default-clause-means : goal.returns-in_default-clause-means
returns-in_default-clause-means g c =
    let graph = arc_value c.args.graph.now in
    IfOk-weaker c.run_with_record-in_default.result _ _
    (λ r means. subst (λ (p : Plan). IsOutcomeOn p graph c.args.turns r.outcome) c.plan-plan.ensures (outcome_on (arc_value c.plan-plan.result.now) graph c.args.turns r.outcome means))
    c.run_with_record-in_default.ensures.means
