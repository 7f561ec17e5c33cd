use Rattle.std.proofs.Common.{◌≡◌, ◌++◌, length, drop}
use Rattle.std.specs.List.{zip}
use Rattle.std.specs.Map.{keys_of}
use Rattle.ascending_lists.specs.MapOperations.{without_keys}
use Rattle.set_ops.proofs.halves.without_common.Given as goal

abbrev pub invariant-loop-position : goal.invariant-loop-position
invariant-loop-position l = record {
  columns : length l.weights.items ≡ length l.keys.items;
  whole : zip l.keys.items l.weights.items ++ without_keys (drop l.position l.first) (keys_of l.second.entries) ≡ without_keys l.first (keys_of l.second.entries);
}
