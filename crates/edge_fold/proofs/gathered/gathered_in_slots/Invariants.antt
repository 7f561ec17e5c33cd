use Rattle.std.proofs.Common.{◌≡◌, ℕ, ◌<◌, ℤ, Bool, if◌then◌else◌, take}
use Rattle.apply_options.specs.declared.reduction.Reduction.{Reduction}
use Rattle.algorithm_meaning.specs.State.{StateValue}
use Rattle.kernels.specs.Registers.{HasSizes}
use Rattle.edge_fold.specs.declared.apply_context.FoldStart.TheVariants as start
use Rattle.edge_fold.specs.Ends.{IsEndTest}
use Rattle.edge_fold.specs.Gathered.{AllAreNonDescending, IsGatheredBy, gathered_for}
use Rattle.edge_fold.specs.Contributions.{reduced_at}
use Rattle.edge_fold.specs.FoldStarts.{combined_with_seed}
use Rattle.edge_fold.specs.VectorAccumulators.{held_in_with, reduction_in}
use Rattle.edge_fold.proofs.gathered.gathered_in_slots.Given as goal

-- what the first slots have is gathered
abbrev pub invariant-slots : goal.invariant-slots
invariant-slots l = record {
  ascending : AllAreNonDescending l.vectors.items;
  reduction : (x : ℕ) (r : Reduction) → reduction_in (take l.position l.slots.slots.items) x r ≡ r → IsGatheredBy r x l.vectors.items;
  numbers : (m : StateValue) (test : ℕ → Bool) → l.context.vectors.now.vectors ≡ m.vectors → HasSizes l.context.sizes.now m → IsEndTest l.to m test
      → (x v : ℕ) (r : Reduction) (h : ℤ) → v < l.context.vertices
      → reduced_at r v h (gathered_for x l.vectors.items) ≡ (if test v then held_in_with (combined_with_seed start.Unit r) (take l.position l.slots.slots.items) x v h else h);
}
