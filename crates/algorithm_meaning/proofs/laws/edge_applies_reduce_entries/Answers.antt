-- Proofs of `edge_applies_reduce_entries`, src/laws.rt.
use Rattle.algorithm_meaning.proofs.EdgeApplies.{entry_after_edges}
use Rattle.algorithm_meaning.proofs.laws.edge_applies_reduce_entries.Goals as goal

pub returns : goal.returns
returns c = entry_after_edges
