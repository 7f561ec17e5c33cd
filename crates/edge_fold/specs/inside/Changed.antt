-- Beside `Changed`: definitions that no public contract cites.
use Rattle.std.specs.Prelude.{[], ℕ, ℤ, List, ◌∷◌}
use Rattle.vectors.specs.declared.changes.EntryChange.{EntryChange}

-- the new entries at these vertices
abbrev pub entries_at : (new : ℕ → ℤ) → List ℕ → List EntryChange
entries_at new [] = []
entries_at new (v ∷ vs) = record { vertex = v; number = new v } ∷ entries_at new vs
