-- Proofs of `races_are_asked_for`, src/laws.rt.
use Rattle.requests.proofs.RaceWords.{plain_race}
use Rattle.requests.proofs.laws.races_are_asked_for.Goals as goal

pub returns : goal.returns
returns c = plain_race
