-- Beside `Columns`: definitions that no public contract cites.
use Rattle.std.specs.Prelude.{ℕ, ℤ, pos, List, get_or}

-- the entry at an index
abbrev pub entry_at : List (ℕ × ℤ) → ℕ → ℕ × ℤ
entry_at entries i = get_or entries i (0, pos 1)
