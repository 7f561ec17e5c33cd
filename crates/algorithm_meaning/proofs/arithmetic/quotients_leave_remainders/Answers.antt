-- Proofs of `quotients_leave_remainders`, src/arithmetic.rt.
use Rattle.algorithm_meaning.proofs.Division.{divides_with_remainder}
use Rattle.algorithm_meaning.proofs.arithmetic.quotients_leave_remainders.Goals as goal

pub returns : goal.returns
returns c = divides_with_remainder
