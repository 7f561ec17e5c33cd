use Rattle.std.proofs.Common.{◌≡◌}
use Rattle.ascending_lists.specs.Maps.{IsMap, lookup}
use Rattle.c_tree.proofs.lookup.weight_in.Given as goal

abbrev pub invariant-loop-other : goal.invariant-loop-other
invariant-loop-other l = record {
  can : (goal.iterator-loop-other).can_next l.other-iterator;
  finite : (goal.iterator-loop-other).is_finite l.other-iterator;
  map : IsMap l.other-iterator;
  same : lookup l.key l.other-iterator ≡ lookup l.key l.tail.entries;
}
