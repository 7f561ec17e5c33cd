-- Proofs of `texts_mean_one_thing`, src/laws.rt.
use Rattle.compiled_runs.proofs.OneMeaning.{one_program, one_meaning}
use Rattle.compiled_runs.proofs.laws.texts_mean_one_thing.Goals as goal

pub returns-clause-program : goal.returns-clause-program
returns-clause-program c = one_program

pub returns-clause-outcome : goal.returns-clause-outcome
returns-clause-outcome c = one_meaning
