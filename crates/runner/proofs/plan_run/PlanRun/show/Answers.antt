-- Proofs of `show`, src/plan_run.rt.
use Rattle.std.proofs.Common.{◌∙◌, ap, sym}
use Rattle.algorithm_meaning.specs.declared.outcome.End.{End as Ending}
use Rattle.algorithm_meaning.specs.Meaning.{shown}
use Rattle.algorithm_meaning.specs.Loop.{forget_beyond}
use Rattle.plans.specs.Plan.{plan_of}
use Rattle.runner.specs.inside.Position.{loops_of}
use Rattle.runner.proofs.Showing.{if_ok, shows_so_far}
use Rattle.runner.proofs.plan_run.PlanRun.show.Goals as goal

pub returns : goal.returns
returns c =
    let run = c.args.self.now in
    if_ok _ _ c.show.result
    (λ o is p s plan. is p (sym plan.names ∙ sym c.deref.ensures.value) (sym plan.vectors ∙ sym c.deref-2.ensures.value)
    ∙ (ap (λ (e : Ending). shown p c.args.turns (forget_beyond c.shown-shown.result run.memory.state.state) e) c.shown_end-end.ensures
    ∙ shows_so_far p c.args.turns (plan_of p s) run.end run.index (loops_of run.memory) run.memory.state.state c.shown-shown.result (c.shown-shown.ensures p s plan)))
    c.show.ensures
