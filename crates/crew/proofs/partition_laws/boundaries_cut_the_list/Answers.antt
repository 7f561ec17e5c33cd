-- Proofs of `boundaries_cut_the_list`, src/partition_laws.rt.
use Rattle.crew.proofs.AllPartitions.{all_are_ends}
use Rattle.crew.proofs.partition_laws.boundaries_cut_the_list.Goals as goal

pub returns : goal.returns
returns c = all_are_ends
