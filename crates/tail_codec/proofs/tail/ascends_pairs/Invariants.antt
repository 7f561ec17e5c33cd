use Rattle.std.proofs.Common.{◌^◌, ◌≤◌, drop}
use Rattle.std.specs.Map.{keys_of}
use Rattle.ascending_lists.specs.Ascending.{AscendsFrom, Ascends}
use Rattle.tail_codec.proofs.tail.ascends_pairs.Given as goal

abbrev pub invariant-loop-key : goal.invariant-loop-key
invariant-loop-key l = record {
  small : l.low ≤ 2 ^ 32;
  whole : AscendsFrom l.low (keys_of (drop l.key-index l.pairs)) → Ascends l.fn.base (keys_of l.pairs);
  rest : Ascends l.fn.base (keys_of l.pairs) → AscendsFrom l.low (keys_of (drop l.key-index l.pairs));
}
