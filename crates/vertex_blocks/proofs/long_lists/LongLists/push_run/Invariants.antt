use Rattle.std.proofs.Common.{◌≡◌, ◌++◌, take}
use Rattle.vertex_blocks.specs.inside.LongLists.{long_entries}
use Rattle.vertex_blocks.proofs.long_lists.LongLists.push_run.Given as goal

abbrev pub invariant-loop-entry : goal.invariant-loop-entry
invariant-loop-entry l = l.self ≡ l.fn.self ++ long_entries (take l.entry-index l.entry-items)
