-- Beside `ChangedMaps`: definitions that no public contract cites.
use Rattle.std.specs.Prelude.{ℕ, Option, Some, None}

-- how much a value weighs, if there is one
abbrev pub weight_at : {V : Type 0} → (V → ℕ) → Option V → ℕ
weight_at weight None = 0
weight_at weight (Some v) = weight v
