-- Proofs of `tickets_keep_their_graphs`, src/laws.rt.
use Rattle.version_laws.proofs.TicketLaws.{tickets_keep, tickets_keep_through}
use Rattle.version_laws.proofs.laws.tickets_keep_their_graphs.Goals as goal

pub returns-clause-history : goal.returns-clause-history
returns-clause-history c = tickets_keep

pub returns-clause-steps : goal.returns-clause-steps
returns-clause-steps c = tickets_keep_through
