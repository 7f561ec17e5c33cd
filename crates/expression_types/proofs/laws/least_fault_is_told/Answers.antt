-- Proofs of `least_fault_is_told`, src/laws.rt.
use Rattle.expression_types.proofs.LeastLaws.{told_is_least}
use Rattle.expression_types.proofs.laws.least_fault_is_told.Goals as goal

pub returns : goal.returns
returns c = told_is_least
