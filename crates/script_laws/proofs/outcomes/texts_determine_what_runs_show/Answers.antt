-- Proofs of `texts_determine_what_runs_show`, src/outcomes.rt.
use Rattle.script_laws.proofs.OutcomeLaws.{runs_determined}
use Rattle.script_laws.proofs.outcomes.texts_determine_what_runs_show.Goals as goal

pub returns : goal.returns
returns c = runs_determined
