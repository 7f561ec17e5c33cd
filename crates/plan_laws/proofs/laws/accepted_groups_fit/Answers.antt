-- Proofs of `accepted_groups_fit`, src/laws.rt.
use Rattle.plan_laws.proofs.FittingGroups.{groups_fit}
use Rattle.plan_laws.proofs.laws.accepted_groups_fit.Goals as goal

pub returns : goal.returns
returns c = groups_fit
