-- Proofs of `options_are_numbers`, src/laws.rt.
use Rattle.requests.proofs.RaceWords.{race_by_options}
use Rattle.requests.proofs.laws.options_are_numbers.Goals as goal

pub returns : goal.returns
returns c = race_by_options
