use Rattle.std.proofs.Common.{◌≡◌, ◌+◌, ◌++◌, length, vec_len}
use Rattle.edge_fold.specs.Between.{firsts}
use Rattle.edge_apply.proofs.parts.take_part.Given as goal

-- those that are taken, and those that are left, are all
abbrev pub invariant-indices : goal.invariant-indices
invariant-indices l = record {
  can : (goal.iterator-indices).can_next l.vertices;
  finite : (goal.iterator-indices).is_finite l.vertices;
  taken : l.part.items ++ firsts l.vertices ≡ firsts l.fn.vertices;
  fewer : length l.vertices + vec_len l.part ≡ length l.fn.vertices;
  count : vec_len l.part ≡ l._index;
}
