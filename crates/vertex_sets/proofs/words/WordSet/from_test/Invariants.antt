use Rattle.std.proofs.Common.{◌≡◌, ◌<◌, ◌*◌, ◌/◌, ◌%◌, ◌==◌, ℕ, length, get_or}
use Rattle.std.specs.Int.{bit_at}
use Rattle.vertex_sets.specs.inside.Words.{word_members}
use Rattle.vertex_sets.proofs.WordMembers.{HasBit}
use Rattle.vertex_sets.proofs.words.WordSet.from_test.Given as goal

abbrev pub invariant-loop-index : goal.invariant-loop-index
invariant-loop-index g l = record {
  words : length l.words.items ≡ l.index;
  count : l.count ≡ length (word_members 0 l.words.items);
  below : (v : ℕ) → HasBit l.words.items v → v < l.vertices;
  tested : (v : ℕ) → v < 64 * l.index → v < l.vertices → goal.F-post g l.test v (bit_at (get_or l.words.items (v / 64) 0) (v % 64) == 1);
}
