-- Proofs of `tickets_are_numbered_in_order`, src/laws.rt.
use Rattle.version_laws.proofs.NumberLaws.{tickets_of_history, tickets_of_steps}
use Rattle.version_laws.proofs.laws.tickets_are_numbered_in_order.Goals as goal

pub returns-clause-history : goal.returns-clause-history
returns-clause-history c = tickets_of_history

pub returns-clause-replies : goal.returns-clause-replies
returns-clause-replies c = tickets_of_steps
