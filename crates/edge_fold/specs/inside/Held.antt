-- Beside `Held`: definitions that no public contract cites.
use Rattle.std.specs.Prelude.{ℕ, ℤ, ◌≡◌, true, Contains, List}
use Rattle.apply_options.specs.declared.reduction.Reduction.{Reduction}
use Rattle.vertex_marks.specs.Marks.{is_marked, room as marks_room}
use Rattle.edge_fold.specs.declared.accumulator.Accumulator.{Accumulator}
use Rattle.edge_fold.specs.Held.{held_with}
use Rattle.edge_fold.specs.declared.initial_entries.InitialEntries.{InitialEntries}
use Rattle.edge_fold.specs.Contributions.{reduced_at}
use Rattle.edge_fold.specs.FoldStarts.{combined_with_seed}
use Rattle.edge_fold.specs.inside.FoldStarts.{initial_seed, start_of}

-- the new entry at a vertex, or this one where nothing was given
abbrev pub held : Accumulator → ℕ → ℤ → ℤ
held a v old = held_with (λ h y. y) a v old

-- all these vertices were given something
abbrev pub AreMarked : Accumulator → List ℕ → Type 0
AreMarked a vs = (v : ℕ) → Contains vs v → is_marked a.marks v ≡ true

-- for how many vertices there is room
abbrev pub room : Accumulator → ℕ
room a = marks_room a.marks

-- after a join an accumulator has what was given to vertices, too
abbrev pub AreJoined : InitialEntries → Reduction → (before after : Accumulator) → List (ℕ × ℤ) → Type 0
AreJoined o r a b gs = (v : ℕ) (h : ℤ) → held_with (combined_with_seed (start_of o) r) b v (initial_seed o v h)
    ≡ reduced_at r v (held_with (combined_with_seed (start_of o) r) a v (initial_seed o v h)) gs
