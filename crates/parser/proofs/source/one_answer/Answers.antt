-- Proofs of `one_answer`, src/source.rt.
use Rattle.parser.proofs.AnswerLaws.{one_answer}
use Rattle.parser.proofs.source.one_answer.Goals as goal

pub returns : goal.returns
returns c = one_answer
