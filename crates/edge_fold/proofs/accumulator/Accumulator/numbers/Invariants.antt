use Rattle.std.proofs.Common.{◌≡◌, ℕ, ◌<◌, ◌≤◌, ◌⊎◌, ℤ, Contains, get_or}
use Rattle.std.specs.List.Sorted.{IsNonDecreasing}
use Rattle.apply_options.specs.declared.reduction.Reduction.{Reduction}
use Rattle.edge_fold.specs.Gathered.{given_numbers}
use Rattle.edge_fold.specs.Contributions.{reduced_at}
use Rattle.edge_fold.proofs.Ascending.{AscendBelow}
use Rattle.edge_fold.proofs.Gathering.{onto}
use Rattle.edge_fold.proofs.accumulator.Accumulator.numbers.Given as goal

-- what the vertices below the next one were given is found, and no vertex that has come is left
abbrev pub invariant-kept : goal.invariant-kept
invariant-kept l = record {
  inside : l.next ≤ l.vertices;
  passed : IsNonDecreasing l.kept → (i : ℕ) → i < l.vertex-index → (get_or l.kept i 0 < l.next) ⊎ (l.vertices ≤ get_or l.kept i 0);
  found : IsNonDecreasing l.kept → (r : Reduction) (h : ℤ) (new : ℕ → ℤ) → ((v : ℕ) → Contains l.kept v → new v ≡ onto r l.self v h) → ((v : ℕ) → v < l.vertices → ¬ Contains l.kept v → new v ≡ h)
      → (v : ℕ) → v < l.next → reduced_at r v h (given_numbers l.numbers.items) ≡ new v;
  left : (r : Reduction) (v : ℕ) (h : ℤ) → l.next ≤ v → reduced_at r v h (given_numbers l.numbers.items) ≡ h;
  ascends : AscendBelow l.next l.numbers.items;
}
