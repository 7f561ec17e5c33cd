-- Proofs of `edge_aware_pieces_end_at_the_limit`, src/partition_laws.rt.
use Rattle.crew.proofs.AllPartitions.{runs_end_at_limit}
use Rattle.crew.proofs.partition_laws.edge_aware_pieces_end_at_the_limit.Goals as goal

pub returns : goal.returns
returns c = runs_end_at_limit
