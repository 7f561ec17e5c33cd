-- Proofs of `fused_applies_fit`, src/laws.rt.
use Rattle.plans.proofs.FusedApplies.{fused_fit}
use Rattle.plans.proofs.laws.fused_applies_fit.Goals as goal

pub returns : goal.returns
returns c = fused_fit
