-- Beside `Names`: definitions that no public contract cites.
use Rattle.std.specs.Prelude.{[], ℕ, List, ◌∷◌}
use Rattle.std.specs.Global.{Vec}

-- the bytes of the names in place of their memory
abbrev pub shown : {T : Type 0} → List (Vec ℕ × T) → List (List ℕ × T)
shown [] = []
shown (e ∷ others) = (e.0.items, e.1) ∷ shown others
