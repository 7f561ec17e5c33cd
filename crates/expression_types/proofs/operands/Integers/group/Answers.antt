-- Proofs of `group`, src/operands.rt.
use Rattle.std.proofs.Common.{ap}
use Rattle.expression_types.specs.inside.Operands.{integers_of}
use Rattle.expression_types.proofs.OperandLaws.{integers_grouped}
use Rattle.expression_types.proofs.operands.Integers.group.Goals as goal

pub returns-in_ok-first-in-Typed : goal.returns-in_ok-first-in-Typed
returns-in_ok-first-in-Typed c =
    integers_grouped c.args.at c.args.first_fault.now (integers_of c.args.self) c.in-Typed.first c.in-Typed.more c.in_ok-first-in-Typed.first
    (ap integers_of c.in-Typed.is) c.in_ok-first-in-Typed.ensures.ok
