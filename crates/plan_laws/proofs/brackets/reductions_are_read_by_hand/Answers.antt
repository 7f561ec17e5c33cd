-- Proofs of `reductions_are_read_by_hand`, src/brackets.rt.
use Rattle.plan_laws.proofs.Values.{reduction_is_read}
use Rattle.plan_laws.proofs.brackets.reductions_are_read_by_hand.Goals as goal

pub returns : goal.returns
returns c = reduction_is_read
