-- Of sorted updates the last one of each edge.
use Rattle.std.specs.Prelude.{ℕ, ◌==◌, Bool, false, if◌then◌else◌, List, [], ◌∷◌}

-- whether the first of these updates has the key of another
abbrev pub begin_same : {A : Type 0} → (A → ℕ) → A → List A → Bool
begin_same key x [] = false
begin_same key x (y ∷ ys) = key y == key x

-- the updates with no update of the same edge right after them
abbrev pub last_updates : {A : Type 0} → (A → ℕ) → List A → List A
last_updates key [] = []
last_updates key (x ∷ xs) = if begin_same key x xs then last_updates key xs else x ∷ last_updates key xs
