-- Proofs of `plain_commands_are_taken`, src/laws.rt.
use Rattle.requests.proofs.Operands.{is_quiet}
use Rattle.requests.proofs.laws.plain_commands_are_taken.Goals as goal

pub returns : goal.returns
returns c = is_quiet
