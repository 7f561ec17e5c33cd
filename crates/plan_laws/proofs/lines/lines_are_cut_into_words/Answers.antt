-- Proofs of `lines_are_cut_into_words`, src/lines.rt.
use Rattle.plan_laws.proofs.LineWords.{line_is}
use Rattle.plan_laws.proofs.lines.lines_are_cut_into_words.Goals as goal

pub returns : goal.returns
returns c = line_is
