use Rattle.std.proofs.Common.{◌≡◌, ◌<◌, ℕ, false, length, get_or}
use Rattle.vertex_sets.specs.inside.Words.{flag_members}
use Rattle.vertex_sets.proofs.flags.FlagSet.from_test.Given as goal

abbrev pub invariant-loop-vertex : goal.invariant-loop-vertex
invariant-loop-vertex g l = record {
  flags : length l.flags.items ≡ l.vertex;
  count : l.count ≡ length (flag_members 0 l.flags.items);
  tested : (v : ℕ) → v < l.vertex → goal.F-post g l.test v (get_or l.flags.items v false);
}
