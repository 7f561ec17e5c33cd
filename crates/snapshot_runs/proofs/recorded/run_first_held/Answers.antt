-- Proofs of `run_first_held`, src/recorded.rt.
use Rattle.std.proofs.Common.{◌∙◌}
use Rattle.std.proofs.lemmas.Result.{IfOk-weaker}
use Rattle.std.specs.Arc.{arc_value}
use Rattle.snapshot_runs.proofs.Recording.{outcome_on, recorded_on}
use Rattle.snapshot_runs.proofs.recorded.run_first_held.Goals as goal

pub returns : goal.returns
returns g c =
    let plan = arc_value c.args.plan.now in
    let flat = arc_value c.in_ok-graph.graph in
    recorded_on plan c.args.held.now.graph flat c.args.turns c.run_with_record.result (c.in_ok-graph.ensures ∙ c.deref.ensures ∙ c.snapshot-snapshot.ensures.graph)
    (IfOk-weaker c.run_with_record.result _ _ (λ r means. outcome_on plan flat c.args.turns r.outcome means) c.run_with_record.ensures.means) c.run_with_record.ensures.kept
