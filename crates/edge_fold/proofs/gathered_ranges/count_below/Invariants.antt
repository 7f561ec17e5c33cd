use Rattle.std.proofs.Common.{ℕ, ◌-◌, ◌<◌, ◌≤◌, length, get_or}
use Rattle.vectors.specs.declared.changes.EntryChange.{EntryChange}
use Rattle.edge_fold.specs.Gathered.{IsNonDescending}
use Rattle.edge_fold.proofs.gathered_ranges.count_below.Given as goal

-- the numbers before the lower end are of vertices below, and those from the upper end on are not
abbrev pub invariant-halves : goal.invariant-halves
invariant-halves l = record {
  order : l.low ≤ l.high;
  inside : l.high ≤ length l.numbers;
  below : IsNonDescending l.numbers → (k : ℕ) (d : EntryChange) → k < l.low → (get_or l.numbers k d).vertex < l.vertex;
  above : IsNonDescending l.numbers → (k : ℕ) (d : EntryChange) → l.high ≤ k → k < length l.numbers → l.vertex ≤ (get_or l.numbers k d).vertex;
}

abbrev pub decreases-halves : goal.decreases-halves
decreases-halves l = l.high - l.low
