use Rattle.std.proofs.Common.{◌≡◌, ◌≢◌, ◌⊎◌, ℕ, length, get_or, Contains}
use Rattle.vertex_sets.specs.inside.Words.{bit_members}
use Rattle.vertex_marks.proofs.members.clear_named.Given as goal

abbrev pub invariant-words : goal.invariant-words
invariant-words l = record {
  len : length l.words ≡ length l.fn.words;
  stay : (index : ℕ) → get_or l.words index 0 ≢ 0 → get_or l.fn.words index 0 ≢ 0;
  clear : (index : ℕ) → Contains (bit_members 64 l.first l.summary) index → Contains (bit_members 64 l.first l.left) index ⊎ (get_or l.words index 0 ≡ 0);
}

abbrev pub decreases-words : goal.decreases-words
decreases-words l = length (bit_members 64 l.first l.left)
