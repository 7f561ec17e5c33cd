-- Proofs of `commands_have_a_line`, src/commands.rt.
use Rattle.script_laws.proofs.LineLaws.{spelled_line}
use Rattle.script_laws.proofs.commands.commands_have_a_line.Goals as goal

pub returns : goal.returns
returns c = spelled_line
