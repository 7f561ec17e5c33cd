-- Proofs of `texts_are_cut_into_instructions`, src/lines.rt.
use Rattle.plan_laws.proofs.LineWords.{text_is}
use Rattle.plan_laws.proofs.lines.texts_are_cut_into_instructions.Goals as goal

pub returns : goal.returns
returns c = text_is
