-- Proofs of `first_words_say_the_kind`, src/instructions.rt.
use Rattle.plan_laws.proofs.Words.{kind_is}
use Rattle.plan_laws.proofs.instructions.first_words_say_the_kind.Goals as goal

pub returns : goal.returns
returns c = kind_is
