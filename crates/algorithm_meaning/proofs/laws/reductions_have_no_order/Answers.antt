-- Proofs of `reductions_have_no_order`, src/laws.rt.
use Rattle.algorithm_meaning.proofs.Reductions.{reductions}
use Rattle.algorithm_meaning.proofs.laws.reductions_have_no_order.Goals as goal

pub returns : goal.returns
returns c = reductions
