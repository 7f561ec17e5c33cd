-- Targets of operations, the indices where a run may continue, as words.
use Rattle.std.specs.Prelude.{ℕ, List, [], ◌∷◌, decimal}
use Rattle.plans.specs.declared.operation.PlanOperation.{PlanOperation}
use Rattle.plans.specs.declared.operation.PlanOperation.TheVariants.{Control}
use Rattle.plans.specs.declared.operation.ControlOperation.TheVariants.{Unless, UnlessBelow, Jump}

abbrev pub indices_of : PlanOperation → List (List ℕ)
indices_of (Control (Unless test to)) = decimal to ∷ []
indices_of (Control (UnlessBelow name to)) = decimal to ∷ []
indices_of (Control (Jump to)) = decimal to ∷ []
indices_of _ = []
