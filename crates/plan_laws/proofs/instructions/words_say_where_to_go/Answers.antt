-- Proofs of `words_say_where_to_go`, src/instructions.rt.
use Rattle.plan_laws.proofs.Words.{index_is}
use Rattle.plan_laws.proofs.instructions.words_say_where_to_go.Goals as goal

pub returns : goal.returns
returns c = index_is
