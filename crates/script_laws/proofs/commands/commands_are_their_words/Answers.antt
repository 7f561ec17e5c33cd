-- Proofs of `commands_are_their_words`, src/commands.rt.
use Rattle.script_laws.proofs.WordLaws.{command_is}
use Rattle.script_laws.proofs.commands.commands_are_their_words.Goals as goal

pub returns : goal.returns
returns c = command_is
