-- Changes that were found at some vertices, and those of a record at all others.
use Rattle.std.specs.Prelude.{ℕ, Bool, not, nat_lt, ◌==◌, if◌then◌else◌, List, [], ◌∷◌, ◌++◌}
use Rattle.std.specs.List.{filter}
use Rattle.vectors.specs.declared.changes.EntryChange.{EntryChange}

-- the changes in front at vertices below this one, and those after them
abbrev pub changes_below : ℕ → List EntryChange → List EntryChange
changes_below v [] = []
changes_below v (c ∷ cs) = if nat_lt c.vertex v then c ∷ changes_below v cs else []

abbrev pub changes_from : ℕ → List EntryChange → List EntryChange
changes_from v [] = []
changes_from v (c ∷ cs) = if nat_lt c.vertex v then changes_from v cs else c ∷ cs

-- two lists of changes by ascending vertices as one
abbrev pub merged : (found recorded : List EntryChange) → List EntryChange
merged fs [] = fs
merged fs (c ∷ cs) = changes_below c.vertex fs ++ c ∷ merged (changes_from c.vertex fs) cs

-- what was found at the vertices of a test, and what is recorded at the others
abbrev pub spliced : (test : ℕ → Bool) → (found recorded : List EntryChange) → List EntryChange
spliced test fs cs = merged (filter (λ c. test c.vertex) fs) (filter (λ c. not (test c.vertex)) cs)

-- the changes at a vertex
abbrev pub changes_at : ℕ → List EntryChange → List EntryChange
changes_at v cs = filter (λ c. c.vertex == v) cs
