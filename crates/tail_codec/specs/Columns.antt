-- Entries whose keys and weights are in columns.
use Rattle.std.specs.Prelude.{ℕ, ℤ, pos, Option, Some, None, List, map}
use Rattle.std.specs.List.{zip}

-- each key with the weight at its position, or with weight 1 where there is no column of weights
abbrev pub entries_in : List ℕ → Option (List ℤ) → List (ℕ × ℤ)
entries_in keys None = map (λ k. (k, pos 1)) keys
entries_in keys (Some weights) = zip keys weights
