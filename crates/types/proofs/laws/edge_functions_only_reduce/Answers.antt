-- Proofs of `edge_functions_only_reduce`, src/laws.rt.
use Rattle.types.proofs.EdgeWrites.{edge_functions_write_well}
use Rattle.types.proofs.laws.edge_functions_only_reduce.Goals as goal

pub returns : goal.returns
returns c = edge_functions_write_well
