-- Proofs of `dismiss`, src/claim_word.rt.
use Rattle.std.proofs.Common.{rules}
use Rattle.crew.proofs.ClaimSteps.{dismisses}
use Rattle.crew.proofs.claim_word.dismiss.Goals as goal

pub join_seat-requires : goal.join_seat-requires
join_seat-requires c = (c.requires.claim.0, c.requires.worker.0, c.requires.worker.2, search rules, dismisses _ _ _ _)
