-- Proofs of `push_once`, src/apply_changes.rt.
use Rattle.std.proofs.Common.{rules, ◌≡◌, true, false, List, ap, sym, ◌∙◌, subst}
use Rattle.vectors.specs.declared.changes.VectorChanges.{VectorChanges}
use Rattle.edge_fold.specs.Changed.{AreApart, changes_or, is_named}
use Rattle.edge_fold.proofs.Findings.{apart_push, changes_or-push, changes_or-skip}
use Rattle.edge_fold.proofs.apply_changes.push_once.Goals as goal

pub returns-then-has_vector-clause-changes : goal.returns-then-has_vector-clause-changes
returns-then-has_vector-clause-changes c x rest =
    let found = c.args.found in
    let cs = c.args.vectors.now.items in
    let named : is_named found.vector c.deref.result.now ≡ true = search rules in
    sym (changes_or-skip x found.vector cs found.changes.items rest (ap (is_named found.vector) (sym c.deref.ensures.value) ∙ named))

pub returns-clause-apart : goal.returns-clause-apart
returns-clause-apart c apart =
    let found = c.args.found in
    let cs = c.args.vectors.now.items in
    let none : is_named found.vector c.deref.result.now ≡ false = search rules in
    subst (λ (ds : List VectorChanges). AreApart ds) (sym c.in_ok-push.ensures.items) (apart_push cs found (ap (is_named found.vector) (sym c.deref.ensures.value) ∙ none) apart)

pub returns-clause-changes : goal.returns-clause-changes
returns-clause-changes c x rest =
    ap (λ (ds : List VectorChanges). changes_or x ds rest) c.in_ok-push.ensures.items ∙ changes_or-push x c.args.vectors.now.items c.args.found rest
