-- Proofs of `hire`, src/claim_word.rt.
use Rattle.std.proofs.Common.{rules}
use Rattle.crew.proofs.ClaimSteps.{hires}
use Rattle.crew.proofs.claim_word.hire.Goals as goal

pub split_seat-requires : goal.split_seat-requires
split_seat-requires c = (c.requires.claim.0, search rules, hires _ _ c.requires.idle c.requires.rights)
