-- Proofs of `words_name_what_is_worked_on`, src/names.rt.
use Rattle.plan_laws.proofs.Named.{names_are}
use Rattle.plan_laws.proofs.names.words_name_what_is_worked_on.Goals as goal

pub returns : goal.returns
returns c = names_are
