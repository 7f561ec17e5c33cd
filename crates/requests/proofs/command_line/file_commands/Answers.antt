-- Proofs of `file_commands`, src/command_line.rt.
use Rattle.std.proofs.Common.{codes}
use Rattle.clap.specs.Words.{with_subcommand}
use Rattle.requests.specs.Asked.{file_command, program, script_command}
use Rattle.requests.proofs.command_line.file_commands.Goals as goal

pub returns : goal.returns
returns c =
    let check = file_command (codes "check") in
    let plan = file_command (codes "plan") in
    let first = c.with_command-program.ensures program check c.bare_program-program.ensures c.check_command.ensures.app c.check_command.ensures.local in
    let second = c.with_command-program-2.ensures (with_subcommand program check.top) plan first c.plan_command.ensures.app c.plan_command.ensures.local in
    c.with_command.ensures (with_subcommand (with_subcommand program check.top) plan.top) script_command second c.script_command.ensures.app c.script_command.ensures.local
