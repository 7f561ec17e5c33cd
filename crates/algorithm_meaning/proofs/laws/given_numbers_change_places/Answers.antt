-- Proofs of `given_numbers_change_places`, src/laws.rt.
use Rattle.algorithm_meaning.proofs.Reductions.{neighbours_swapped}
use Rattle.algorithm_meaning.proofs.laws.given_numbers_change_places.Goals as goal

pub returns : goal.returns
returns c = neighbours_swapped
