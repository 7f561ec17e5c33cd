-- Proofs of `open`, src/plan_run.rt.
use Rattle.std.proofs.Common.{◌∙◌, [], List, ap, reverse}
use Rattle.algorithm_meaning.specs.declared.state.LoopCounter.{LoopCounter}
use Rattle.plans.specs.Machine.{At}
use Rattle.runner.proofs.Running.{opens}
use Rattle.runner.proofs.plan_run.PlanRun.open.Goals as goal

pub returns-clause-configuration : goal.returns-clause-configuration
returns-clause-configuration c p vectors sets =
    ap (λ (loops : List LoopCounter). At 0 (reverse loops) c.in_ok-state.state.state) c.new.ensures.items
    ∙ ap (At 0 []) c.in_ok-state.ensures.state
    ∙ opens c.args.graph.now c.deref.result.now c.deref-2.result.now c.args.turns p (c.deref.ensures.value ∙ vectors) (c.deref-2.ensures.value ∙ sets)
