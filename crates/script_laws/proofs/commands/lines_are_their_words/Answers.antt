-- Proofs of `lines_are_their_words`, src/commands.rt.
use Rattle.script_laws.proofs.LineLaws.{line_is}
use Rattle.script_laws.proofs.commands.lines_are_their_words.Goals as goal

pub returns : goal.returns
returns c = line_is
