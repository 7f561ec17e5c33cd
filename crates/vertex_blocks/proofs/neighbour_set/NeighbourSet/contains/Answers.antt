-- Proofs of `contains`, src/neighbour_set.rt.
use Rattle.std.specs.Map.{keys_of}
use Rattle.vertex_blocks.proofs.Decisions.{contains_is}
use Rattle.vertex_blocks.proofs.neighbour_set.NeighbourSet.contains.Goals as goal

pub returns-in-Chunked : goal.returns-in-Chunked
returns-in-Chunked c =
    rw (← c.self.view_is, c.in-Chunked.is)
    (contains_is c.args.neighbour (keys_of c.in-Chunked.set.now.entries) c.contains-in-Chunked.result c.contains-in-Chunked.ensures.0 c.contains-in-Chunked.ensures.1)
