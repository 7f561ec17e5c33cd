use Rattle.std.proofs.Common.{◌≡◌, ◌<◌, ◌≤◌, ◌==◌, ℕ, pos, not, get_or}
use Rattle.std.specs.Int.{bit_at}
use Rattle.algorithm_meaning.specs.Arithmetic.{int_equal}
use Rattle.edge_fold.proofs.whole_changes.differing.Given as goal

-- the bits so far say which numbers differ, and no other bit is set
abbrev pub invariant-indices : goal.invariant-indices
invariant-indices l = record {
  compared : (i : ℕ) → i < l.index → (bit_at l.word i == 1) ≡ not (int_equal (get_or l.old i (pos 0)) (get_or l.new i (pos 0)));
  others : (i : ℕ) → l.index ≤ i → bit_at l.word i ≡ 0;
}
