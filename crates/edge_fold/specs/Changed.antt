-- Changes of an apply: the vertices whose entries differ after it, with their new entries.
use Rattle.std.specs.Prelude.{[], ◌≡◌, ℕ, ◌+◌, zero, suc, ℤ, ◌==◌, Bool, false, if◌then◌else◌, List, ◌∷◌, ◌++◌}
use Rattle.std.specs.List.{list_any}
use Rattle.algorithm_meaning.specs.Arithmetic.{int_equal}
use Rattle.vectors.specs.declared.changes.EntryChange.{EntryChange}
use Rattle.vectors.specs.declared.changes.VectorChanges.{VectorChanges}

-- the new entry at a vertex, where it differs from the old one
abbrev pub change_at : (old new : ℕ → ℤ) → ℕ → List EntryChange
change_at old new v = if int_equal (old v) (new v) then [] else record { vertex = v; number = new v } ∷ []

-- those of n vertices from one on, ascending
unfoldable pub changed_from : (old new : ℕ → ℤ) → (v count : ℕ) → List EntryChange
changed_from old new v zero = []
changed_from old new v (suc n) = change_at old new v ++ changed_from old new (v + 1) n

-- those of a graph of n vertices
abbrev pub changed : (n : ℕ) → (old new : ℕ → ℤ) → List EntryChange
changed n old new = changed_from old new 0 n

-- the changes of a vector, or these if it has none
abbrev pub changes_or : (vector : ℕ) → List VectorChanges → List EntryChange → List EntryChange
changes_or x [] rest = rest
changes_or x (c ∷ cs) rest = if c.vector == x then c.changes.items else changes_or x cs rest

-- of what an apply changes, that in one vector
abbrev pub changes_of : (vector : ℕ) → List VectorChanges → List EntryChange
changes_of x cs = changes_or x cs []

-- whether one of the changes is of this vector
abbrev pub is_named : (vector : ℕ) → List VectorChanges → Bool
is_named x cs = list_any (λ c. c.vector == x) cs

-- no two are of one vector
abbrev pub AreApart : List VectorChanges → Type 0
AreApart [] = Unit {0}
AreApart (c ∷ cs) = (is_named c.vector cs ≡ false) × AreApart cs
