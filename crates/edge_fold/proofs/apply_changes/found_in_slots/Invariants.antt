use Rattle.std.proofs.Common.{◌≡◌, ℕ, Bool, drop}
use Rattle.algorithm_meaning.specs.State.{StateValue}
use Rattle.algorithm_meaning.specs.Value.{entry}
use Rattle.kernels.specs.Registers.{HasSizes}
use Rattle.edge_fold.specs.Ends.{IsEndTest}
use Rattle.edge_fold.specs.VectorAccumulators.{active}
use Rattle.edge_fold.specs.Changed.{AreApart, changes_or}
use Rattle.edge_fold.proofs.Findings.{found_in}
use Rattle.edge_fold.proofs.apply_changes.found_in_slots.Given as goal

-- what is found, and after it what the slots that are left have, is what all have
abbrev pub invariant-slots : goal.invariant-slots
invariant-slots l = record {
  apart : AreApart l.vectors.items;
  found : (m : StateValue) (test : ℕ → Bool) → l.context.vectors.now.vectors ≡ m.vectors → HasSizes l.context.sizes.now m → IsEndTest l.to m test
      → (x : ℕ) → changes_or x l.vectors.items (found_in l.context.vertices (entry m.vectors) test (drop l.position (active l.slots)) x)
      ≡ found_in l.context.vertices (entry m.vectors) test (active l.slots) x;
}
