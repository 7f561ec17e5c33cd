use Rattle.std.proofs.Common.{◌≡◌, ◌+◌, ◌-◌, ◌≤◌, length, take, drop}
use Rattle.std.specs.List.{zip}
use Rattle.std.specs.Map.{keys_of}
use Rattle.ascending_lists.specs.Operations.{most}
use Rattle.tail_codec.specs.inside.Merging.{merged}
use Rattle.tail_codec.proofs.MapMerging.{IsMerging}
use Rattle.tail_codec.proofs.merging.merge_front.Given as goal

abbrev pub invariant-loop-from_first : goal.invariant-loop-from_first
invariant-loop-from_first l = record {
  merging : IsMerging l.fn.operation (merged l.fn.operation l.first l.second) (take l.len (zip l.keys l.weights)) (drop l.from_first l.first) (drop l.from_second l.second);
  first : l.from_first ≤ length l.first;
  second : l.from_second ≤ length l.second;
  room : l.len + most l.fn.operation (length (drop l.from_first (keys_of l.first))) (length (drop l.from_second (keys_of l.second))) ≤ length l.keys;
  keys : length l.keys ≡ length l.fn.keys;
  weights : length l.weights ≡ length l.fn.keys;
}

abbrev pub decreases-loop-from_first : goal.decreases-loop-from_first
decreases-loop-from_first l = length l.first + length l.second - (l.from_first + l.from_second)
