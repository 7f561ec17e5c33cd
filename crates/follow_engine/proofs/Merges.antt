-- The changes of all vectors, those found and those recorded, vector by vector.
use Rattle.std.proofs.Common.{◌≡◌, ℕ, ◌==◌, Bool, true, false, cond, ◌++◌, List, [], ◌∷◌, refl, ap, ◌∙◌}
use Rattle.vectors.specs.declared.changes.Changes.{Changes}
use Rattle.vectors.specs.declared.changes.EntryChange.{EntryChange}
use Rattle.vectors.specs.declared.changes.VectorChanges.{VectorChanges}
use Rattle.edge_fold.specs.Changed.{changes_of, changes_or}
use Rattle.edge_fold.proofs.Findings.{changes_or-push}
use Rattle.follow_engine.specs.Spliced.{spliced}
use Rattle.follow_engine.specs.inside.Among.{HasSpliced}
use Rattle.follow_engine.proofs.Columns.{same}

-- both sides of a vector
abbrev pub whole_of : (test : ℕ → Bool) → (found recorded : Changes) → (vector : ℕ) → List EntryChange
whole_of test found recorded x = spliced test (changes_of x found.vectors.items) (changes_of x recorded.vectors.items)

own_changes : (whole : ℕ → List EntryChange) (v x : ℕ) (b : Bool) → (v == x) ≡ b → cond b (whole v) (whole x) ≡ whole x
own_changes whole v x true is = ap whole (same v x is)
own_changes whole v x false is = refl

-- one vector more
pub spliced_more : (test : ℕ → Bool) (found recorded : Changes) (x : ℕ) (vs : List VectorChanges) (c : VectorChanges) → c.changes.items ≡ whole_of test found recorded c.vector
    → HasSpliced test found recorded x vs → HasSpliced test found recorded x (vs ++ c ∷ [])
spliced_more test found recorded x vs c own have =
    let whole = whole_of test found recorded in
    changes_or-push x vs c (whole x)
    ∙ ap (λ (cs : List EntryChange). changes_or x vs (cond (c.vector == x) cs (whole x))) own
    ∙ ap (changes_or x vs) (own_changes whole c.vector x (c.vector == x) refl)
    ∙ have
