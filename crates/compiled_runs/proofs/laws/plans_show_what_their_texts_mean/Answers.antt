-- Proofs of `plans_show_what_their_texts_mean`, src/laws.rt.
use Rattle.compiled_runs.proofs.OneMeaning.{shows_meaning}
use Rattle.compiled_runs.proofs.laws.plans_show_what_their_texts_mean.Goals as goal

pub returns : goal.returns
returns c = shows_meaning
