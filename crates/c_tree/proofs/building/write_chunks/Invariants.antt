use Rattle.std.proofs.Common.{◌≡◌, None, [], ◌++◌, length}
use Rattle.std.specs.Map.{keys_of}
use Rattle.ascending_lists.specs.Ascending.{Ascends}
use Rattle.c_tree.specs.Chunks.{before_head, chunks_of}
use Rattle.c_tree.proofs.building.write_chunks.Given as goal

abbrev pub invariant-loop-head : goal.invariant-loop-head
invariant-loop-head l = record {
  whole : l.chunks.items ++ chunks_of l.chunk_size l.rest ≡ chunks_of l.chunk_size l.fn.entries;
  ascending : Ascends None (keys_of l.rest);
  cut : before_head l.chunk_size l.rest ≡ [];
}

abbrev pub decreases-loop-head : goal.decreases-loop-head
decreases-loop-head l = length l.rest
