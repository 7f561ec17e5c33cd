use Rattle.std.proofs.Common.{◌≡◌, ◌+◌, ◌-◌, ◌≤◌, ◌++◌, length, drop, vec_len}
use Rattle.std.specs.Vec.{vec_capacity}
use Rattle.pages.specs.inside.Entries.{end_of, placed_at}
use Rattle.pages.proofs.appending.append.Given as goal

abbrev pub invariant-loop-entry : goal.invariant-loop-entry
invariant-loop-entry l = record {
  items : l.entries.items ++ placed_at l.position (drop l.entry-index l.run) ≡ l.fn.entries.items ++ placed_at l.fn.position l.run;
  ends : end_of l.position (drop l.entry-index l.run) ≡ end_of l.fn.position l.run;
  room : vec_len l.entries + (length l.run - l.entry-index) ≤ vec_capacity l.entries;
}
