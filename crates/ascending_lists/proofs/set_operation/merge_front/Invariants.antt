use Rattle.std.proofs.Common.{◌+◌, ◌-◌, ◌≤◌, length, take, drop}
use Rattle.ascending_lists.specs.Operations.{combined, most}
use Rattle.ascending_lists.proofs.Merging.{IsMerging}
use Rattle.ascending_lists.proofs.set_operation.merge_front.Given as goal

abbrev pub invariant-loop-from_first : goal.invariant-loop-from_first
invariant-loop-from_first l = record {
  merging : IsMerging l.fn.operation (combined l.fn.operation l.first l.second) (take l.len l.list) (drop l.from_first l.first) (drop l.from_second l.second);
  first : l.from_first ≤ length l.first;
  second : l.from_second ≤ length l.second;
  room : l.len + most l.fn.operation (length (drop l.from_first l.first)) (length (drop l.from_second l.second)) ≤ length l.list;
}

abbrev pub decreases-loop-from_first : goal.decreases-loop-from_first
decreases-loop-from_first l = length l.first + length l.second - (l.from_first + l.from_second)
