use Rattle.std.proofs.Common.{◌≡◌, ◌<◌, ◌≤◌, ◌+◌, ◌==◌, ℕ}
use Rattle.std.specs.Int.{bit_at}
use Rattle.vertex_sets.proofs.words.word_from_test.Given as goal

abbrev pub invariant-loop-bit : goal.invariant-loop-bit
invariant-loop-bit g l = record {
  tested : (i : ℕ) → i < l.bit → goal.F-post g l.test (l.from + i) (bit_at l.word i == 1);
  others : (i : ℕ) → l.bit ≤ i → bit_at l.word i ≡ 0;
}
