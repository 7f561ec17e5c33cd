use Rattle.std.proofs.Common.{ℕ, ◌^◌, ◌≤◌, take}
use Rattle.ascending_lists.specs.Maps.{Rises}
use Rattle.shared_tree.proofs.sorted.ascends.Given as goal

abbrev pub invariant-loop-key : goal.invariant-loop-key
invariant-loop-key g l = record {
  rises : Rises 0 l.low (take l.key-index l.entries);
  least : (h : ℕ) → Rises 0 h (take l.key-index l.entries) → l.low ≤ h;
  fits : l.low ≤ 2 ^ 32;
}
