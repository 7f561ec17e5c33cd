use Rattle.std.proofs.Common.{◌≡◌, length, take}
use Rattle.std.specs.List.{zip}
use Rattle.tail_codec.proofs.entry_list.EntryList.from_pairs.Given as goal

abbrev pub invariant-loop-position : goal.invariant-loop-position
invariant-loop-position l = record {
  keys : length l.keys.items ≡ length l.pairs;
  weights : length l.weights.items ≡ length l.pairs;
  front : take l.position (zip l.keys.items l.weights.items) ≡ take l.position l.pairs;
}
