use Rattle.std.proofs.Common.{◌≡◌, ◌+◌, length, drop}
use Rattle.c_tree.specs.Chunks.{before_head}
use Rattle.c_tree.proofs.building.head_index.Given as goal

abbrev pub invariant-loop-index : goal.invariant-loop-index
invariant-loop-index l = l.index + length (before_head l.chunk_size (drop l.index l.entries)) ≡ length (before_head l.chunk_size l.entries)
