-- Proofs of `versions_are_folds_of_their_batches`, src/laws.rt.
use Rattle.session.proofs.Folds.{versions_are_folds}
use Rattle.session.proofs.laws.versions_are_folds_of_their_batches.Goals as goal

pub returns : goal.returns
returns c = versions_are_folds
