-- Proofs of `versions_keep_their_graphs`, src/laws.rt.
use Rattle.version_laws.proofs.TicketLaws.{versions_stay}
use Rattle.version_laws.proofs.laws.versions_keep_their_graphs.Goals as goal

pub returns : goal.returns
returns c = versions_stay
