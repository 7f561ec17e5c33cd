use Rattle.std.proofs.Common.{◌≡◌, ◌<◌, ℕ, length, Contains}
use Rattle.vertex_sets.specs.VertexSet.{word_count}
use Rattle.vertex_sets.specs.inside.Words.{word_members}
use Rattle.vertex_sets.proofs.Ascending.{AreDoneOrLeft}
use Rattle.vertex_sets.proofs.words.WordSet.from_members.Given as goal

abbrev pub invariant-loop-vertex : goal.invariant-loop-vertex
invariant-loop-vertex l = record {
  words : length l.set.words.items ≡ word_count l.vertices;
  below : (v : ℕ) → Contains l.vertex-iterator v → v < l.vertices;
  members : AreDoneOrLeft l.fn.members (word_members 0 l.set.words.items) l.vertex-iterator;
}
