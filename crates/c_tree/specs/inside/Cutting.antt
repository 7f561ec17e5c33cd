-- Entries that are cut at one head after another.
use Rattle.std.specs.Prelude.{ℕ, ℤ, if◌then◌else◌, List, [], ◌∷◌}
use Rattle.c_tree.specs.Heads.{is_head}

-- what stands from the first head on
abbrev pub from_head : ℕ → List (ℕ × ℤ) → List (ℕ × ℤ)
from_head b [] = []
from_head b (e ∷ es) = if is_head b e.0 then e ∷ es else from_head b es
