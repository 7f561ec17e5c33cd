-- Proofs of `texts_determine_their_outcomes`, src/outcomes.rt.
use Rattle.script_laws.proofs.OutcomeLaws.{text_determines}
use Rattle.script_laws.proofs.outcomes.texts_determine_their_outcomes.Goals as goal

pub returns : goal.returns
returns c = text_determines
