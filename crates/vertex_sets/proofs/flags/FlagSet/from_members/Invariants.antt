use Rattle.std.proofs.Common.{◌≡◌, ◌<◌, ℕ, length, Contains}
use Rattle.vertex_sets.specs.inside.Words.{flag_members}
use Rattle.vertex_sets.proofs.Ascending.{AreDoneOrLeft}
use Rattle.vertex_sets.proofs.flags.FlagSet.from_members.Given as goal

abbrev pub invariant-loop-vertex : goal.invariant-loop-vertex
invariant-loop-vertex l = record {
  vertices : length l.set.flags.items ≡ l.vertices;
  below : (v : ℕ) → Contains l.vertex-iterator v → v < l.vertices;
  members : AreDoneOrLeft l.fn.members (flag_members 0 l.set.flags.items) l.vertex-iterator;
}
