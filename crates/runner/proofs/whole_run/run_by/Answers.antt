-- Proofs of `run_by`, src/whole_run.rt.
use Rattle.std.proofs.Common.{◌∙◌, ap}
use Rattle.std.specs.Option.{is_some}
use Rattle.run_state.specs.State.{graph_value}
use Rattle.runner.specs.inside.Position.{configuration_of, loops_of}
use Rattle.runner.proofs.Resting.{means_at_rest}
use Rattle.runner.proofs.Running.{has_ended}
use Rattle.runner.proofs.Showing.{if_ok}
use Rattle.runner.proofs.whole_run.run_by.Goals as goal

pub returns-clause-means : goal.returns-clause-means
returns-clause-means over c =
    let g = graph_value c.args.graph.now in
    let run = c.run_to_end.new.self in
    if_ok _ _ c.into_outcome.result (λ o is p s plan reduces. is p s plan
    ∙ means_at_rest p s c.args.plan.now g c.args.turns (configuration_of c.in_ok-run.run') (configuration_of run) plan
    (c.in_ok-run.ensures.configuration p plan.vectors plan.sets) (c.run_to_end.ensures.steps p s plan reduces)
    (has_ended run.end run.index (loops_of run.memory) run.memory.state.state (ap is_some c.in_ok-run_to_end.ensures.end))) c.into_outcome.ensures
