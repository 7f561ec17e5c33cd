-- Proofs of `append_changes`, src/appended.rt.
use Rattle.std.proofs.Common.{◌≤◌, List, length, refl, sym, ap, ◌∙◌, subst}
use Rattle.std.proofs.lemmas.List.{take_all}
use Rattle.vectors.specs.declared.changes.VectorChanges.{VectorChanges}
use Rattle.edge_fold.specs.Changed.{AreApart, changes_of, changes_or, is_named}
use Rattle.edge_apply.specs.inside.Merged.{changes_in_parts}
use Rattle.edge_apply.proofs.PartChanges.{found_or, no_changes_next}
use Rattle.edge_apply.proofs.appended.append_changes.Goals as goal

pub parts-init : goal.parts-init
parts-init c =
    let fs = c.args.parts.now in
    let empty = c.new-vectors.ensures.items in
    record {
      once = subst (λ (vs : List VectorChanges). AreApart vs) (sym empty) tt;
      whole = λ x. ap (λ (vs : List VectorChanges). changes_or x vs (changes_in_parts x fs)) empty;
      none = λ x _. refl;
    }

pub parts-preserved : goal.parts-preserved
parts-preserved c =
    let fs = c.args.parts.now in
    let added = c.in_ok-add_vectors.ensures in
    record {
      once = added.once c.parts.invariant.once;
      whole = λ x. added.all x (c.parts.invariant.whole x);
      none = λ x off.
          let was = added.named x off in
          no_changes_next x fs c.parts.part-index c.part-item.result c.parts-test.true c.part-item.is (c.parts.invariant.none x was.0)
          (ap (λ (vs : List VectorChanges). changes_of x vs) (sym c.deref.ensures.value) ∙ was.1);
    }

pub returns-clause-changes : goal.returns-clause-changes
returns-clause-changes c x =
    let fs = c.args.parts.now in
    let all : length fs ≤ c.parts.part-index = c.parts-test.false in
    let vs = c.parts.vectors.items in
    found_or x vs (changes_in_parts x fs) (is_named x vs) refl (c.parts.invariant.whole x)
    (λ off. ap (changes_in_parts x) (sym (take_all c.parts.part-index fs all)) ∙ c.parts.invariant.none x off)
