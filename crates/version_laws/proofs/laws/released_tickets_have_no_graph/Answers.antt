-- Proofs of `released_tickets_have_no_graph`, src/laws.rt.
use Rattle.version_laws.proofs.TicketLaws.{tickets_go, tickets_go_through}
use Rattle.version_laws.proofs.laws.released_tickets_have_no_graph.Goals as goal

pub returns-clause-history : goal.returns-clause-history
returns-clause-history c = tickets_go

pub returns-clause-steps : goal.returns-clause-steps
returns-clause-steps c = tickets_go_through
