-- Proofs of `words_say_the_settings`, src/instructions.rt.
use Rattle.plan_laws.proofs.Words.{settings_are}
use Rattle.plan_laws.proofs.instructions.words_say_the_settings.Goals as goal

pub returns : goal.returns
returns c = settings_are
