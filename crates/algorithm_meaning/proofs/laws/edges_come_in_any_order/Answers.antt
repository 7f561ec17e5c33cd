-- Proofs of `edges_come_in_any_order`, src/laws.rt.
use Rattle.algorithm_meaning.proofs.EdgeApplies.{entry_in_any_order}
use Rattle.algorithm_meaning.proofs.laws.edges_come_in_any_order.Goals as goal

pub returns : goal.returns
returns c = entry_in_any_order
