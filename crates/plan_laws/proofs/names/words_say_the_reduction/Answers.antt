-- Proofs of `words_say_the_reduction`, src/names.rt.
use Rattle.plan_laws.proofs.Named.{reduction_is}
use Rattle.plan_laws.proofs.names.words_say_the_reduction.Goals as goal

pub returns : goal.returns
returns c = reduction_is
