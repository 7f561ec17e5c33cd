use Rattle.std.proofs.Common.{◌≡◌, ℕ, ◌++◌, Bool, length}
use Rattle.std.specs.List.{filter}
use Rattle.algorithm_meaning.specs.State.{StateValue}
use Rattle.kernels.specs.Registers.{HasSizes}
use Rattle.edge_fold.specs.Ends.{IsFilterTest}
use Rattle.edge_fold.proofs.passing.keep_in_parts.Given as goal

-- those that are kept, with those that pass among the rest, are all that pass
abbrev pub invariant-parts : goal.invariant-parts
invariant-parts l = (m : StateValue) (test : ℕ → Bool) → l.context.vectors.now.vectors ≡ m.vectors → HasSizes l.context.sizes.now m → IsFilterTest l.kernel m test
    → l.kept.items ++ filter test l.rest ≡ l.fn.kept.items ++ filter test l.vertices

abbrev pub decreases-parts : goal.decreases-parts
decreases-parts l = length l.rest
