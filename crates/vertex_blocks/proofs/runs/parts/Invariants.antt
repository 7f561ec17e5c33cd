use Rattle.std.proofs.Common.{◌≡◌, ◌++◌, drop, length}
use Rattle.std.specs.List.{zip}
use Rattle.vertex_blocks.specs.inside.Runs.{added_in, removed_in}
use Rattle.vertex_blocks.proofs.runs.parts.Given as goal

abbrev pub invariant-loop-index : goal.invariant-loop-index
invariant-loop-index l = record {
  columns : length l.weights.items ≡ length l.added.items;
  added : zip l.added.items l.weights.items ++ added_in (drop l.index l.updates) ≡ added_in l.updates;
  removed : l.removed.items ++ removed_in (drop l.index l.updates) ≡ removed_in l.updates;
}
