-- Beside `Columns`: definitions that no public contract cites.
use Rattle.std.specs.Prelude.{◌≡◌, ℕ, ℤ, Option, Some, None, List, length, ◌++◌}
use Rattle.std.specs.List.{zip}

-- a column of weights is as long as that of keys
abbrev pub AreColumns : List ℕ → Option (List ℤ) → Type 0
AreColumns keys None = Unit {0}
AreColumns keys (Some weights) = length weights ≡ length keys

-- The entries es are after those of the old columns in the new ones.
pub record AreAppended (old_keys : List ℕ) (old_weights : List ℤ) (es : List (ℕ × ℤ)) (keys : List ℕ) (weights : List ℤ) : Type 0 where
  pub columns : length weights ≡ length keys
  pub whole : zip keys weights ≡ zip old_keys old_weights ++ es
