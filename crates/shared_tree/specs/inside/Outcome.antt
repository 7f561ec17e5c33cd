-- Beside `Outcome`: definitions that no public contract cites.
use Rattle.std.specs.Prelude.{ℕ, ◌+◌, ◌*◌, ◌^◌, ◌<◌, ◌≤◌}

-- d is the least depth of a tree of n entries
abbrev pub IsLeastDepth : ℕ → ℕ → Type 0
IsLeastDepth count d = (count < 2 ^ d) × (2 ^ d ≤ 2 * count + 1)
