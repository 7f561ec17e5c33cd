use Rattle.std.proofs.Common.{◌≡◌, ℕ, ◌<◌, ◌≤◌, ◌⊎◌, ℤ, Contains, get_or}
use Rattle.std.specs.List.Sorted.{IsNonDecreasing}
use Rattle.vectors.specs.Lanes.{lane_entry}
use Rattle.edge_fold.specs.Changed.{changed_from}
use Rattle.edge_fold.specs.inside.Held.{AreMarked, held}
use Rattle.edge_fold.proofs.accumulator.Accumulator.changes.Given as goal

-- the changes below the next vertex are found, and no vertex that has come is left
abbrev pub invariant-kept : goal.invariant-kept
invariant-kept l = record {
  inside : l.next ≤ l.vertices;
  passed : IsNonDecreasing l.kept → (i : ℕ) → i < l.vertex-index → (get_or l.kept i 0 < l.next) ⊎ (l.vertices ≤ get_or l.kept i 0);
  found : IsNonDecreasing l.kept → AreMarked l.self l.kept → (new : ℕ → ℤ) → ((v : ℕ) → Contains l.kept v → new v ≡ held l.self v (lane_entry l.old v))
      → ((v : ℕ) → v < l.vertices → ¬ Contains l.kept v → new v ≡ lane_entry l.old v)
      → l.changes.items ≡ changed_from (lane_entry l.old) new 0 l.next;
}
