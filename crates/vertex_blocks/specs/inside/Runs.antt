-- What updates of one vertex add, each with its weight, and what they remove.
use Rattle.std.specs.Prelude.{ℕ, ℤ, if◌then◌else◌, List, [], ◌∷◌}
use Rattle.edge_updates.specs.declared.edge_update.EdgeUpdate.{EdgeUpdate}
use Rattle.edge_updates.specs.EdgeUpdate.{neighbour_of, adds}
use Rattle.pages.specs.Updates.{added}

-- the neighbours that are added, with their weights
abbrev pub added_in : List (EdgeUpdate × ℤ) → List (ℕ × ℤ)
added_in [] = []
added_in (u ∷ us) = added u (added_in us)

-- the neighbours that are removed
abbrev pub removed_in : List (EdgeUpdate × ℤ) → List ℕ
removed_in [] = []
removed_in (u ∷ us) = if adds u.0 then removed_in us else neighbour_of u.0 ∷ removed_in us
