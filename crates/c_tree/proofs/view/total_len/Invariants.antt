use Rattle.std.proofs.Common.{◌≡◌, ◌+◌, length}
use Rattle.c_tree.specs.inside.Chunks.{entries_of, together}
use Rattle.c_tree.proofs.view.total_len.Given as goal

abbrev pub invariant-loop-tail : goal.invariant-loop-tail
invariant-loop-tail l = record {
  can : (goal.iterator-loop-tail).can_next l.tail-iterator;
  finite : (goal.iterator-loop-tail).is_finite l.tail-iterator;
  count : l.len + length (entries_of l.tail-iterator) ≡ length (together l.prefix l.fn.heads);
}
