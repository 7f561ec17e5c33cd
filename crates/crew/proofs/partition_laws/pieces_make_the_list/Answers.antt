-- Proofs of `pieces_make_the_list`, src/partition_laws.rt.
use Rattle.crew.proofs.PieceLists.{pieces_are_the_list}
use Rattle.crew.proofs.partition_laws.pieces_make_the_list.Goals as goal

pub returns : goal.returns
returns c = pieces_are_the_list
