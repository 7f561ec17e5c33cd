-- Proofs of `numbers_out_of_range_are_faults`, src/laws.rt.
use Rattle.requests.proofs.RaceWords.{bad_turns, bad_workers}
use Rattle.requests.proofs.laws.numbers_out_of_range_are_faults.Goals as goal

pub returns-clause-workers : goal.returns-clause-workers
returns-clause-workers c = bad_workers

pub returns-clause-turns : goal.returns-clause-turns
returns-clause-turns c = bad_turns
