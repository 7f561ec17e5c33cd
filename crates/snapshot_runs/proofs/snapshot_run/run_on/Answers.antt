-- Proofs of `run_on`, src/snapshot_run.rt.
use Rattle.std.proofs.Common.{◌∙◌, ap}
use Rattle.std.proofs.lemmas.Result.{IfOk-weaker}
use Rattle.algorithm_meaning.specs.Meaning.{meaning}
use Rattle.plans.specs.PlanOf.{IsCompiled, program_of}
use Rattle.flat_snapshot.specs.Digraph.{Digraph}
use Rattle.run_state.specs.State.{graph_value}
use Rattle.snapshot_runs.proofs.snapshot_run.run_on.Goals as goal

pub returns : goal.returns
returns g c =
    let plan = c.args.plan.now in
    IfOk-weaker c.run_by_workers.result _ _ (λ o means (of : IsCompiled plan). means (program_of plan) of.schedule of.planned of.reducing
    ∙ ap (λ (d : Digraph). meaning (program_of plan) (graph_value d) c.args.turns) c.in_ok-flat.ensures) c.run_by_workers.ensures
