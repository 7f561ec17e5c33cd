use Rattle.std.proofs.Common.{◌≡◌, ◌*◌, ◌^◌, ◌≤◌, take}
use Rattle.vertex_blocks.specs.Blocks.{edge_total}
use Rattle.vertex_blocks.specs.inside.LongLists.{long_entries}
use Rattle.vertex_blocks.proofs.long_lists.LongLists.edge_count.Given as goal

abbrev pub invariant-loop-entry : goal.invariant-loop-entry
invariant-loop-entry l = record {
  total : l.total ≡ edge_total (long_entries (take l.entry-index l.entry-items));
  few : l.total ≤ l.entry-index * 2 ^ 32;
}
