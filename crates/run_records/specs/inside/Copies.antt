-- Copies of changes.
use Rattle.std.specs.Prelude.{◌≡◌, ℕ, List, map}
use Rattle.vectors.specs.declared.changes.EntryChange.{EntryChange}
use Rattle.vectors.specs.declared.changes.VectorChanges.{VectorChanges}

-- the vector of an item, and its changes
abbrev pub item_of : VectorChanges → ℕ × List EntryChange
item_of c = (c.vector, c.changes.items)

-- the same changes of the same vectors, in the same order
abbrev pub AreSameChanges : List VectorChanges → List VectorChanges → Type 0
AreSameChanges cs ds = map item_of cs ≡ map item_of ds
