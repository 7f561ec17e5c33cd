use Rattle.std.proofs.Common.{◌≡◌, ◌≤◌, take, drop, length}
use Rattle.std.specs.Map.{keys_of}
use Rattle.tail_codec.proofs.iter.TailIter.fill.Given as goal

abbrev pub invariant-loop-position : goal.invariant-loop-position
invariant-loop-position l = record {
  can : (goal.iterator-loop-position).can_next l.entries;
  finite : (goal.iterator-loop-position).is_finite l.entries;
  count : l.filled ≡ l.position-index;
  left : l.filled ≤ length l.fn.self;
  rest : l.entries ≡ drop l.filled l.fn.self;
  front : take l.filled l.block ≡ take l.filled (keys_of l.fn.self);
  back : drop l.filled l.block ≡ drop l.filled l.fn.block;
}
