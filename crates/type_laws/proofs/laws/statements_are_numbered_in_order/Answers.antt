-- Proofs of `statements_are_numbered_in_order`, src/laws.rt.
use Rattle.type_laws.proofs.Numbers.{program_order}
use Rattle.type_laws.proofs.laws.statements_are_numbered_in_order.Goals as goal

pub returns : goal.returns
returns c = program_order
