-- Proofs of `static_pieces_are_those_of_workers`, src/partition_laws.rt.
use Rattle.crew.proofs.Runs.{length-static_ends}
use Rattle.crew.proofs.partition_laws.static_pieces_are_those_of_workers.Goals as goal

pub returns : goal.returns
returns c = length-static_ends
