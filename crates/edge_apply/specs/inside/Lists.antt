-- Beside `Lists`: definitions that no public contract cites.
use Rattle.std.specs.Prelude.{[], ℕ, ◌+◌, ◌≤◌, List, ◌∷◌}

-- each is above the one before it, and the first is not below this
abbrev pub AscendsFrom : ℕ → List ℕ → Type 0
AscendsFrom low [] = Unit {0}
AscendsFrom low (u ∷ us) = (low ≤ u) × AscendsFrom (u + 1) us
