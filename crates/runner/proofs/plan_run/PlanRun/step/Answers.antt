-- Proofs of `step`, src/steps.rt.
use Rattle.std.proofs.Common.{◌∙◌, ◌<◌, Option, ap, sym, subst}
use Rattle.algorithm_meaning.specs.declared.outcome.End.{End as Ending}
use Rattle.plans.specs.Instruction.{InstructionTree}
use Rattle.plans.specs.Machine.{Configuration, act, act_at, step}
use Rattle.plans.specs.Plan.{plan_of}
use Rattle.plans.proofs.FusedApplies.{fused_fit}
use Rattle.plans.specs.inside.Outline.{most_steps_of}
use Rattle.plans.specs.Operation.{IsInstruction}
use Rattle.run_state.specs.State.{RunState, graph_value}
use Rattle.runner.specs.inside.Done.{AreLevel}
use Rattle.runner.specs.inside.Position.{configuration_of, loops_of, position}
use Rattle.runner.proofs.Partners.{found_none, found_some, none_at, partner_at}
use Rattle.runner.proofs.Ready.{functions_known, instruction_ready}
use Rattle.runner.proofs.Stepping.{act_steps, level_falls}
use Rattle.runner.proofs.plan_run.PlanRun.step.Goals as goal

pub act-requires-clause-ready : goal.act-requires-clause-ready
act-requires-clause-ready over c =
    let run = c.args.self.now in
    let i = c.in-Some-get.instruction.now in
    let is = c.args.plan.now.instructions.items in
    let found = found_some is c.deref.result.now run.index c.get.result c.in-Some-get.instruction c.deref.ensures.value c.get.ensures.lookup.1 c.get.ensures.lookup.3 c.in-Some-get.is in
    instruction_ready c.args.plan.now run.index i found

pub act-requires-clause-known : goal.act-requires-clause-known
act-requires-clause-known over c = functions_known c.args.plan.now

pub returns-in_ok-flow-in-Some-get-clause-steps : goal.returns-in_ok-flow-in-Some-get-clause-steps
returns-in_ok-flow-in-Some-get-clause-steps over c p schedule plan reduces =
    let run = c.args.self.now in
    let i = c.in-Some-get.instruction.now in
    let is = c.args.plan.now.instructions.items in
    let found = found_some is c.deref.result.now run.index c.get.result c.in-Some-get.instruction c.deref.ensures.value c.get.ensures.lookup.1 c.get.ensures.lookup.3 c.in-Some-get.is in
    let g = graph_value c.args.graph.now in
    let s = run.memory.state.state in
    let kept = ap (λ (r : RunState). r.state) c.forget_beyond.ensures in
    let code = plan_of p schedule in
    let partner = partner_at IsInstruction is code run.index i plan.instructions found in
    let t = partner.partner in
    c.follow.ensures.configuration
    ∙ (c.in_ok-flow-in-Some-get.ensures.done p t plan.functions partner.related (fused_fit p schedule run.index t partner.is_there) (reduces run.index t partner.is_there) run.index
    ∙ (act_steps p g code run.index (loops_of run.memory) s c.forget_beyond.new.self.state i t partner.is_there partner.related kept
    ∙ ap (λ (e : Option Ending). step p g code (position e run.index (loops_of run.memory) s)) (sym c.in-None.is)))

pub returns-in_ok-flow-in-Some-get-clause-fewer : goal.returns-in_ok-flow-in-Some-get-clause-fewer
returns-in_ok-flow-in-Some-get-clause-fewer over c going =
    let run = c.args.self.now in
    let i = c.in-Some-get.instruction.now in
    let is = c.args.plan.now.instructions.items in
    let found = found_some is c.deref.result.now run.index c.get.result c.in-Some-get.instruction c.deref.ensures.value c.get.ensures.lookup.1 c.get.ensures.lookup.3 c.in-Some-get.is in
    let g = graph_value c.args.graph.now in
    let s = run.memory.state.state in
    let kept = ap (λ (r : RunState). r.state) c.forget_beyond.ensures in
    let next = configuration_of c.follow.new.self in
    subst (λ (e : Option Ending). most_steps_of is next < most_steps_of is (position e run.index (loops_of run.memory) s)) (sym going)
    (level_falls c.args.plan.now g run.index (loops_of run.memory) s i next found (λ p schedule plan.
    let code = plan_of p schedule in
    let partner = partner_at IsInstruction is code run.index i plan.instructions found in
    let t = partner.partner in
    subst (λ (d : Configuration). AreLevel next d)
    (act_steps p g code run.index (loops_of run.memory) s c.forget_beyond.new.self.state i t partner.is_there partner.related kept)
    (subst (λ (d : Configuration). AreLevel d (act p g t.operation i.number i.shown run.index (loops_of run.memory) c.forget_beyond.new.self.state)) (sym c.follow.ensures.configuration)
    (c.in_ok-flow-in-Some-get.ensures.level p t partner.related run.index))))

pub returns-in-None-get-clause-steps : goal.returns-in-None-get-clause-steps
returns-in-None-get-clause-steps over c p schedule plan reduces =
    let run = c.args.self.now in
    let g = graph_value c.args.graph.now in
    let code = plan_of p schedule in
    let s = run.memory.state.state in
    let found = found_none c.args.plan.now.instructions.items c.deref.result.now run.index c.get.result c.deref.ensures.value c.get.ensures.lookup.1 c.get.ensures.lookup.3 c.in-None-get.is in
    let none = none_at IsInstruction c.args.plan.now.instructions.items code run.index plan.instructions found in
    sym (ap (λ (e : Option Ending). step p g code (position e run.index (loops_of run.memory) s)) c.in-None.is
    ∙ ap (λ (o : Option InstructionTree). act_at p g o run.index (loops_of run.memory) s) none)
