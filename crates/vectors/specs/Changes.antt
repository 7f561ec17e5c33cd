-- The vectors after changes were written.
use Rattle.std.specs.Prelude.{ℕ, ℤ, List, [], ◌∷◌}
use Rattle.algorithm_meaning.specs.Value.{with_entry}
use Rattle.vectors.specs.declared.changes.EntryChange.{EntryChange}
use Rattle.vectors.specs.declared.changes.VectorChanges.{VectorChanges}

-- those of one vector, in order
abbrev pub with_changes : (vector : ℕ) → List EntryChange → List (List ℤ) → List (List ℤ)
with_changes vector [] vectors = vectors
with_changes vector (c ∷ cs) vectors = with_changes vector cs (with_entry vectors vector c.vertex c.number)

abbrev pub with_all_changes : List VectorChanges → List (List ℤ) → List (List ℤ)
with_all_changes [] vectors = vectors
with_all_changes (c ∷ cs) vectors = with_all_changes cs (with_changes c.vector c.changes.items vectors)
