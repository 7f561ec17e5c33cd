-- Proofs of `go_on`, src/steps.rt.
use Rattle.std.proofs.Common.{sym, subst}
use Rattle.plans.specs.Instruction.{OperationTree}
use Rattle.plans.specs.declared.operation.PlanOperation.TheVariants as op
use Rattle.plans.specs.declared.operation.ControlOperation.{ControlOperation}
use Rattle.plans.specs.Operation.{IsOperation}
use Rattle.runner.specs.declared.flow.Flow.TheVariants.{Next}
use Rattle.runner.specs.inside.Done.{HasDone}
use Rattle.runner.proofs.memory.Memory.go_on.Goals as goal

pub returns-in-UnlessBelow-clause-done : goal.returns-in-UnlessBelow-clause-done
returns-in-UnlessBelow-clause-done c p g t on is =
    let i = c.args.i.now in
    let same = subst (λ (o : ControlOperation). IsOperation i.keep i.shown (op.Control o) t) c.in-UnlessBelow.is is in
    subst (λ (o : OperationTree). HasDone i c.unless_below.result c.args.self.now c.unless_below.new.self p g o) (sym same) (c.unless_below.ensures.done p g c.in-UnlessBelow.name)

pub returns-in_ok-advance-in-Advance-clause-done : goal.returns-in_ok-advance-in-Advance-clause-done
returns-in_ok-advance-in-Advance-clause-done c p g t on is =
    let i = c.args.i.now in
    let same = subst (λ (o : ControlOperation). IsOperation i.keep i.shown (op.Control o) t) c.in-Advance.is is in
    subst (λ (o : OperationTree). HasDone i Next c.args.self.now c.advance.new.self p g o) (sym same) (c.in_ok-advance-in-Advance.ensures.done p g c.in-Advance.name)

pub returns-in-Turn-clause-done : goal.returns-in-Turn-clause-done
returns-in-Turn-clause-done c p g t on is =
    let i = c.args.i.now in
    let same = subst (λ (o : ControlOperation). IsOperation i.keep i.shown (op.Control o) t) c.in-Turn.is is in
    subst (λ (o : OperationTree). HasDone i c.turn.result c.args.self.now c.turn.new.self p g o) (sym same) (c.turn.ensures.done p g)
