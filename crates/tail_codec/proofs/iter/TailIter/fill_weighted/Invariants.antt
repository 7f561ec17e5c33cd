use Rattle.std.proofs.Common.{◌≡◌, ◌≤◌, take, drop, length}
use Rattle.std.specs.Map.{keys_of, values_of}
use Rattle.tail_codec.proofs.iter.TailIter.fill_weighted.Given as goal

abbrev pub invariant-loop-position : goal.invariant-loop-position
invariant-loop-position l = record {
  count : l.filled ≡ l.position;
  within : l.filled ≤ length l.fn.self;
  rest : l.left ≡ drop l.filled l.fn.self;
  long : length l.keys ≡ length l.fn.keys;
  long_weights : length l.weights ≡ length l.fn.keys;
  front : take l.filled l.keys ≡ take l.filled (keys_of l.fn.self);
  front_weights : take l.filled l.weights ≡ take l.filled (values_of l.fn.self);
  back : drop l.filled l.keys ≡ drop l.filled l.fn.keys;
  back_weights : drop l.filled l.weights ≡ drop l.filled l.fn.weights;
}
