-- Proofs of `shown`, src/plan_run.rt.
use Rattle.std.proofs.Common.{Option, sym, subst}
use Rattle.algorithm_meaning.specs.declared.outcome.End.{End as Ending}
use Rattle.plans.specs.Instruction.{InstructionTree}
use Rattle.plans.specs.Plan.{plan_of}
use Rattle.plans.specs.Operation.{IsInstruction}
use Rattle.plans.proofs.Depths.{forgotten-all}
use Rattle.runner.specs.inside.Position.{IsShown, IsShownWhere, loops_of, position}
use Rattle.runner.proofs.Partners.{found_none, found_some, none_at, partner_at}
use Rattle.runner.proofs.plan_run.PlanRun.shown.Goals as goal

pub returns-in-Some-get : goal.returns-in-Some-get
returns-in-Some-get c p s plan =
    let run = c.args.self.now in
    let i = c.in-Some-get.instruction.now in
    let is = c.args.plan.now.instructions.items in
    let found = found_some is c.deref.result.now run.index c.get.result c.in-Some-get.instruction c.deref.ensures.value c.get.ensures.lookup.1 c.get.ensures.lookup.3 c.in-Some-get.is in
    let partner = partner_at IsInstruction is (plan_of p s) run.index i plan.instructions found in
    subst (λ (e : Option Ending). IsShown (plan_of p s) (position e run.index (loops_of run.memory) run.memory.state.state) i.shown) (sym c.in-None.is)
    (subst (λ (o : Option InstructionTree). IsShownWhere o run.memory.state.state i.shown) (sym partner.is_there) partner.related.shown)

pub returns-in-None-get : goal.returns-in-None-get
returns-in-None-get c p s plan =
    let run = c.args.self.now in
    let d = c.depth-in-None-get.result in
    let is = c.args.plan.now.instructions.items in
    let found = found_none is c.deref.result.now run.index c.get.result c.deref.ensures.value c.get.ensures.lookup.1 c.get.ensures.lookup.3 c.in-None-get.is in
    let none = none_at IsInstruction is (plan_of p s) run.index plan.instructions found in
    subst (λ (e : Option Ending). IsShown (plan_of p s) (position e run.index (loops_of run.memory) run.memory.state.state) d) (sym c.in-None.is)
    (subst (λ (o : Option InstructionTree). IsShownWhere o run.memory.state.state d) (sym none) (forgotten-all d run.memory.state.state (sym c.depth-in-None-get.ensures)))
