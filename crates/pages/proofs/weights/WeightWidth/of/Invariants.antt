use Rattle.std.proofs.Common.{◌≡◌, ℕ, pos, ◌≤ℤ◌, ◌<◌, get_or}
use Rattle.pages.specs.declared.weights.WeightWidth.{WeightWidth}
use Rattle.pages.specs.inside.Weights.{Allows}
use Rattle.pages.proofs.weights.WeightWidth.of.Given as goal

abbrev pub invariant-loop-weight : goal.invariant-loop-weight
invariant-loop-weight l = record {
  least : l.least ≤ℤ pos 1;
  greatest : pos 1 ≤ℤ l.greatest;
  low : (i : ℕ) → i < l.weight-index → l.least ≤ℤ get_or l.weights i (pos 1);
  high : (i : ℕ) → i < l.weight-index → get_or l.weights i (pos 1) ≤ℤ l.greatest;
  ones : ((i : ℕ) → i < l.weight-index → get_or l.weights i (pos 1) ≡ pos 1) → (l.least ≡ pos 1) × (l.greatest ≡ pos 1);
  allows : (w : WeightWidth) → Allows w (pos 1) → ((i : ℕ) → i < l.weight-index → Allows w (get_or l.weights i (pos 1))) → Allows w l.least × Allows w l.greatest;
}
