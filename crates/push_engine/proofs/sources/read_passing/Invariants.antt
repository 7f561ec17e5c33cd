use Rattle.std.proofs.Common.{◌≡◌, ◌≤◌, drop, length, take}
use Rattle.std.specs.List.{filter}
use Rattle.std.specs.Map.{keys_of}
use Rattle.edge_apply.specs.Words.{passes_words}
use Rattle.push_engine.proofs.sources.read_passing.Given as goal

-- those that pass among the neighbours that have come are at the front
abbrev pub invariant-indices : goal.invariant-indices
invariant-indices l = record {
  few : l.kept ≤ l.index;
  room : length l.keys ≡ length l.fn.keys;
  passing : take l.kept l.keys ≡ filter (passes_words l.words) (take l.index (drop l.first (keys_of l.list)));
}
