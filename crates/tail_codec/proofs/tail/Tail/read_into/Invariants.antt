use Rattle.std.proofs.Common.{◌≡◌, ◌+◌, ◌++◌, length, take}
use Rattle.std.specs.List.{zip}
use Rattle.tail_codec.proofs.tail.Tail.read_into.Given as goal

abbrev pub invariant-loop-key : goal.invariant-loop-key
invariant-loop-key l = record {
  can : (goal.iterator-loop-key).can_next l.key-iterator;
  finite : (goal.iterator-loop-key).is_finite l.key-iterator;
  keys : length l.keys ≡ length l.fn.keys;
  weights : length l.weights ≡ length l.fn.keys;
  position : l.position + length l.key-iterator ≡ l.fn.position + length l.self.entries;
  read : take l.position (zip l.keys l.weights) ++ l.key-iterator ≡ take l.fn.position (zip l.fn.keys l.fn.weights) ++ l.self.entries;
}
