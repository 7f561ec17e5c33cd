use Rattle.std.proofs.Common.{◌≡◌, ℕ, ℤ, if◌then◌else◌, take}
use Rattle.apply_options.specs.declared.reduction.Reduction.{Reduction}
use Rattle.edge_fold.specs.Gathered.{AllAreNonDescending, IsGatheredBy, gathered_for, is_in_range}
use Rattle.edge_fold.specs.Contributions.{reduced_at}
use Rattle.edge_fold.proofs.gathered.Gathered.between.Given as goal

-- the range is taken of the first vectors
abbrev pub invariant-vectors : goal.invariant-vectors
invariant-vectors l = record {
  reduction : (x : ℕ) (r : Reduction) → IsGatheredBy r x l.self.vectors.items → IsGatheredBy r x l.vectors.items;
  numbers : AllAreNonDescending l.self.vectors.items → (x : ℕ) (r : Reduction) (v : ℕ) (h : ℤ) → reduced_at r v h (gathered_for x l.vectors.items)
      ≡ (if is_in_range l.low l.high v then reduced_at r v h (gathered_for x (take l.of_vector-index l.self.vectors.items)) else h);
}
