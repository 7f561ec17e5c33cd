-- Proofs of `draw`, src/claim_word.rt.
use Rattle.std.proofs.Common.{rules}
use Rattle.crew.proofs.ClaimSteps.{draws}
use Rattle.crew.proofs.claim_word.draw.Goals as goal

pub fetch_add-requires : goal.fetch_add-requires
fetch_add-requires c = (c.requires.claim.0, search rules, draws _ _ _ _ c.requires.right)
