-- Proofs of `splice_all`, src/vector_splices.rt.
use Rattle.std.proofs.Common.{◌≡◌, [], List, refl, sym, ap, ap₂, ◌∙◌, subst}
use Rattle.vectors.specs.declared.changes.EntryChange.{EntryChange}
use Rattle.vectors.specs.declared.changes.VectorChanges.{VectorChanges}
use Rattle.vertex_marks.specs.Marks.{is_marked}
use Rattle.edge_fold.specs.Changed.{changes_of, is_named}
use Rattle.edge_apply.proofs.PartChanges.{found_or}
use Rattle.follow_engine.specs.Spliced.{spliced}
use Rattle.follow_engine.specs.inside.Among.{HasSpliced}
use Rattle.follow_engine.proofs.Merges.{whole_of}
use Rattle.follow_engine.proofs.vector_splices.splice_all.Goals as goal

pub returns-clause-changes : goal.returns-clause-changes
returns-clause-changes c x =
    let test = is_marked c.args.marks.now in
    let found = c.args.found.now in
    let recorded = c.args.recorded.now in
    let vs = c.add_vectors-2.new.vectors.items in
    let first = c.in_ok-add_vectors.ensures in
    let second = c.in_ok-add_vectors-2.ensures in
    let empty : HasSpliced test found recorded x c.new-vectors.result.items =
    subst (λ (ws : List VectorChanges). HasSpliced test found recorded x ws) (sym c.new-vectors.ensures.items) refl in
    found_or x vs (whole_of test found recorded x) (is_named x vs) refl (second.all x (first.all x empty))
    (λ off.
    let after = second.named x off in
    let before = first.named x after.0 in
    let none_found : changes_of x found.vectors.items ≡ [] = ap (λ (ws : List VectorChanges). changes_of x ws) (sym c.deref.ensures.value) ∙ before.1 in
    let none_recorded : changes_of x recorded.vectors.items ≡ [] = ap (λ (ws : List VectorChanges). changes_of x ws) (sym c.deref-2.ensures.value) ∙ after.1 in
    ap₂ (λ (fs rs : List EntryChange). spliced test fs rs) none_found none_recorded)
