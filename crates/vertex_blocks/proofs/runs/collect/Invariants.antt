use Rattle.std.proofs.Common.{◌≡◌, ◌++◌}
use Rattle.vertex_blocks.proofs.runs.collect.Given as goal

abbrev pub invariant-loop-neighbour : goal.invariant-loop-neighbour
invariant-loop-neighbour l = record {
  can : (goal.iterator-loop-neighbour).can_next l.neighbour-iterator;
  finite : (goal.iterator-loop-neighbour).is_finite l.neighbour-iterator;
  rest : l.list ++ l.neighbour-iterator ≡ l.set.entries;
}
