-- Proofs of `group`, src/operands.rt.
use Rattle.std.proofs.Common.{ap}
use Rattle.expression_types.specs.inside.Operands.{conditions_of}
use Rattle.expression_types.proofs.OperandLaws.{conditions_grouped}
use Rattle.expression_types.proofs.operands.Conditions.group.Goals as goal

pub returns-in_ok-first-in-Typed : goal.returns-in_ok-first-in-Typed
returns-in_ok-first-in-Typed c =
    conditions_grouped c.args.connective c.args.at c.args.first_fault.now (conditions_of c.args.connective c.args.self) c.in-Typed.first c.in-Typed.more c.in_ok-first-in-Typed.first
    (ap (conditions_of c.args.connective) c.in-Typed.is) c.in_ok-first-in-Typed.ensures.ok
