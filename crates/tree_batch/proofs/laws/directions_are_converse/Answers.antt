-- Proofs of `directions_are_converse`, src/laws.rt.
use Rattle.tree_batch.proofs.Columns.{destination_weight, source_weight}
use Rattle.tree_batch.proofs.laws.directions_are_converse.Goals as goal

pub returns-clause-out : goal.returns-clause-out
returns-clause-out c = destination_weight

pub returns-clause-into : goal.returns-clause-into
returns-clause-into c = source_weight
