-- Proofs of `new`, src/graph.rt.
use Rattle.std.proofs.Common.{rules}
use Rattle.tree_batch.proofs.Neighbourhoods.{size_is}
use Rattle.tree_batch.proofs.graph.Graph.new.Goals as goal

pub returns : goal.returns
returns c = (search rules, size_is c.args.chunk_size c.in-Ok.ensures.0, search rules)
