-- Proofs of `plain_commands_are_their_operands`, src/laws.rt.
use Rattle.requests.proofs.Operands.{is_read}
use Rattle.requests.proofs.laws.plain_commands_are_their_operands.Goals as goal

pub returns : goal.returns
returns c = is_read
