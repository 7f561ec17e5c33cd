-- Proofs of `add_vector`, src/appended.rt.
use Rattle.std.proofs.Common.{rules, ◌≡◌, true, false, List, sym, ap, ◌∙◌, subst}
use Rattle.vectors.specs.declared.changes.VectorChanges.{VectorChanges}
use Rattle.edge_fold.specs.Changed.{AreApart, changes_or, is_named}
use Rattle.edge_fold.proofs.Findings.{apart_push}
use Rattle.edge_apply.specs.inside.Merged.{changes_in_parts}
use Rattle.edge_apply.proofs.PartChanges.{another, have_more, named_push}
use Rattle.edge_apply.proofs.appended.add_vector.Goals as goal

pub returns-then-has_vector-clause-named : goal.returns-then-has_vector-clause-named
returns-then-has_vector-clause-named c x off =
    let v = c.args.vector in
    let vs = c.args.vectors.now.items in
    let there : is_named v vs ≡ true = search rules in
    (off, another v x vs there off)

pub returns-clause-once : goal.returns-clause-once
returns-clause-once c apart =
    let vs = c.args.vectors.now.items in
    let new : VectorChanges = record { vector = c.args.vector; changes = c.in_ok-changes.changes } in
    let none : is_named c.args.vector vs ≡ false = search rules in
    subst (λ (ws : List VectorChanges). AreApart ws) (sym c.in_ok-push.ensures.items) (apart_push vs new none apart)

pub returns-clause-all : goal.returns-clause-all
returns-clause-all c x have =
    let fs = c.args.parts.now in
    let vs = c.args.vectors.now.items in
    let new : VectorChanges = record { vector = c.args.vector; changes = c.in_ok-changes.changes } in
    ap (λ (ws : List VectorChanges). changes_or x ws (changes_in_parts x fs)) c.in_ok-push.ensures.items ∙ have_more x fs vs new c.in_ok-changes.ensures have

pub returns-clause-named : goal.returns-clause-named
returns-clause-named c x off =
    let vs = c.args.vectors.now.items in
    let new : VectorChanges = record { vector = c.args.vector; changes = c.in_ok-changes.changes } in
    named_push x vs new (ap (λ (ws : List VectorChanges). is_named x ws) (sym c.in_ok-push.ensures.items) ∙ off)
