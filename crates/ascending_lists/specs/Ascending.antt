-- Strictly ascending lists of numbers below 2 ^ 32.
use Rattle.std.specs.Prelude.{ℕ, ◌+◌, ◌^◌, ◌<◌, ◌≤◌, Option, Some, None, List, [], ◌∷◌}

-- the least number that a list over the base may begin with
abbrev pub least : Option ℕ → ℕ
least None = 0
least (Some base) = base + 1

-- the first element is low or more, each other one is above the one before, all are below 2 ^ 32
abbrev pub AscendsFrom : ℕ → List ℕ → Type 0
AscendsFrom low [] = Unit {0}
AscendsFrom low (x ∷ xs) = (low ≤ x) × (x < 2 ^ 32) × AscendsFrom (x + 1) xs

abbrev pub Ascends : Option ℕ → List ℕ → Type 0
Ascends base xs = AscendsFrom (least base) xs
