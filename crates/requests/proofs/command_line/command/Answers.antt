-- Proofs of `command`, src/command_line.rt.
use Rattle.requests.specs.Asked.{file_commands, race_command}
use Rattle.requests.proofs.command_line.command.Goals as goal

pub returns : goal.returns
returns c = c.with_command.ensures file_commands race_command c.file_commands-program.ensures c.race_command.ensures.app c.race_command.ensures.local
