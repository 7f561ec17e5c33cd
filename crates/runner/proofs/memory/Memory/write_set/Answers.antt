-- Proofs of `write_set`, src/steps.rt.
use Rattle.std.proofs.Common.{sym, subst}
use Rattle.plans.specs.Instruction.{OperationTree}
use Rattle.plans.specs.declared.operation.PlanOperation.TheVariants as op
use Rattle.plans.specs.declared.operation.SetOperation.{SetOperation}
use Rattle.plans.specs.Operation.{IsOperation}
use Rattle.runner.specs.declared.flow.Flow.TheVariants.{Next}
use Rattle.runner.specs.inside.Done.{HasDone}
use Rattle.runner.proofs.memory.Memory.write_set.Goals as goal

pub returns-in_ok-declare_set-in-DeclareSet-clause-done : goal.returns-in_ok-declare_set-in-DeclareSet-clause-done
returns-in_ok-declare_set-in-DeclareSet-clause-done c p g t on functions is =
    let i = c.args.i.now in
    let same = subst (λ (o : SetOperation). IsOperation i.keep i.shown (op.Set o) t) c.in-DeclareSet.is is in
    subst (λ (o : OperationTree). HasDone i Next c.args.self.now c.declare_set.new.self p g o) (sym same) (c.in_ok-declare_set-in-DeclareSet.ensures.done p g on functions)

pub returns-in_ok-assign_set-in-AssignSet-clause-done : goal.returns-in_ok-assign_set-in-AssignSet-clause-done
returns-in_ok-assign_set-in-AssignSet-clause-done c p g t on functions is =
    let i = c.args.i.now in
    let same = subst (λ (o : SetOperation). IsOperation i.keep i.shown (op.Set o) t) c.in-AssignSet.is is in
    subst (λ (o : OperationTree). HasDone i Next c.args.self.now c.assign_set.new.self p g o) (sym same) (c.in_ok-assign_set-in-AssignSet.ensures.done p g on functions)
