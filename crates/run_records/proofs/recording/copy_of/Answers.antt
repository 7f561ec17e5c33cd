-- Proofs of `copy_of`, src/recording.rt.
use Rattle.std.proofs.Common.{◌≡◌, ◌+◌, ◌<◌, ◌≤◌, List, get_or, length, take, refl, sym, ◌∙◌, subst}
use Rattle.std.proofs.lemmas.List.{take_all}
use Rattle.vectors.specs.declared.changes.VectorChanges.{VectorChanges}
use Rattle.run_records.specs.inside.Copies.{AreSameChanges}
use Rattle.run_records.proofs.Copies.{same_more}
use Rattle.run_records.proofs.recording.copy_of.Goals as goal

pub vectors-preserved : goal.vectors-preserved
vectors-preserved c =
    let ds = c.args.changes.now.vectors.items in
    let i = c.vectors.of_vector-index in
    let d = c.of_vector-item.result in
    let seen = c.deref-of_vector-items.ensures.value in
    let copy : VectorChanges = record { vector = d.vector; changes = c.in_ok-list.list } in
    let inside : i < length ds = subst (λ (es : List VectorChanges). i < length es) seen c.vectors-test.true in
    let here : d ≡ get_or ds i d = subst (λ (es : List VectorChanges). d ≡ get_or es i d) seen c.of_vector-item.is in
    subst (λ (cs : List VectorChanges). AreSameChanges cs (take (i + 1) ds)) (sym c.in_ok-push.ensures.items)
    (same_more c.vectors.vectors.items ds i copy d inside here c.vectors.invariant refl (c.in_ok-list.ensures.items ∙ c.deref.ensures.value))

pub returns : goal.returns
returns c =
    let ds = c.args.changes.now.vectors.items in
    let all : length ds ≤ c.vectors.of_vector-index = subst (λ (es : List VectorChanges). length es ≤ c.vectors.of_vector-index) c.deref-of_vector-items.ensures.value c.vectors-test.false in
    subst (λ (es : List VectorChanges). AreSameChanges c.vectors.vectors.items es) (take_all c.vectors.of_vector-index ds all) c.vectors.invariant
