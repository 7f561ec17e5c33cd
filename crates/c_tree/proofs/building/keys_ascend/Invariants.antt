use Rattle.std.proofs.Common.{None, ◌^◌, ◌≤◌, drop}
use Rattle.std.specs.Map.{keys_of}
use Rattle.ascending_lists.specs.Ascending.{AscendsFrom, Ascends}
use Rattle.c_tree.proofs.building.keys_ascend.Given as goal

abbrev pub invariant-loop-key : goal.invariant-loop-key
invariant-loop-key l = record {
  small : l.low ≤ 2 ^ 32;
  whole : AscendsFrom l.low (keys_of (drop l.key-index l.pairs)) → Ascends None (keys_of l.pairs);
  rest : Ascends None (keys_of l.pairs) → AscendsFrom l.low (keys_of (drop l.key-index l.pairs));
}
