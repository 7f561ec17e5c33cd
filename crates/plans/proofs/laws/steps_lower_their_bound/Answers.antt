-- Proofs of `steps_lower_their_bound`, src/laws.rt.
use Rattle.plans.proofs.Whole.{steps_lower}
use Rattle.plans.proofs.laws.steps_lower_their_bound.Goals as goal

pub returns : goal.returns
returns c = steps_lower
