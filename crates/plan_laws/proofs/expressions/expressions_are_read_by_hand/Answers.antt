-- Proofs of `expressions_are_read_by_hand`, src/expressions.rt.
use Rattle.plan_laws.proofs.Machine.{integer_is_read, condition_is_read}
use Rattle.plan_laws.proofs.expressions.expressions_are_read_by_hand.Goals as goal

pub returns-clause-integers : goal.returns-clause-integers
returns-clause-integers c = integer_is_read

pub returns-clause-conditions : goal.returns-clause-conditions
returns-clause-conditions c = condition_is_read
