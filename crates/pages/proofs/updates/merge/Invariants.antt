use Rattle.std.proofs.Common.{◌≡◌, ◌≤◌, ◌++◌, length, drop}
use Rattle.pages.specs.Updates.{updated}
use Rattle.pages.proofs.updates.merge.Given as goal

abbrev pub invariant-loop-index : goal.invariant-loop-index
invariant-loop-index l = record {
  within : l.at ≤ length l.list;
  whole : l.after ++ updated (drop l.at l.list) (drop l.index l.updates) ≡ updated l.list l.updates;
}
