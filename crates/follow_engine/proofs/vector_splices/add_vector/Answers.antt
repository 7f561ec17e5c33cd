-- Proofs of `add_vector`, src/vector_splices.rt.
use Rattle.std.proofs.Common.{rules, ◌≡◌, true, false, List, sym, ap, ap₂, ◌∙◌, subst}
use Rattle.vectors.specs.declared.changes.EntryChange.{EntryChange}
use Rattle.vectors.specs.declared.changes.VectorChanges.{VectorChanges}
use Rattle.vertex_marks.specs.Marks.{is_marked}
use Rattle.edge_fold.specs.Changed.{AreApart, is_named}
use Rattle.edge_fold.proofs.Findings.{apart_push}
use Rattle.edge_apply.proofs.PartChanges.{another, named_push}
use Rattle.follow_engine.specs.Spliced.{spliced}
use Rattle.follow_engine.specs.inside.Among.{HasSpliced}
use Rattle.follow_engine.proofs.Merges.{spliced_more}
use Rattle.follow_engine.proofs.vector_splices.add_vector.Goals as goal

pub returns-then-has_vector-clause-named : goal.returns-then-has_vector-clause-named
returns-then-has_vector-clause-named c x off =
    let v = c.args.vector in
    let vs = c.args.vectors.now.items in
    let there : is_named v vs ≡ true = search rules in
    (off, another v x vs there off)

pub returns-clause-once : goal.returns-clause-once
returns-clause-once c apart =
    let vs = c.args.vectors.now.items in
    let new : VectorChanges = record { vector = c.args.vector; changes = c.in_ok-changes.changes } in
    let none : is_named c.args.vector vs ≡ false = search rules in
    subst (λ (ws : List VectorChanges). AreApart ws) (sym c.in_ok-push.ensures.items) (apart_push vs new none apart)

pub returns-clause-all : goal.returns-clause-all
returns-clause-all c x have =
    let vs = c.args.vectors.now.items in
    let test = is_marked c.args.marks.now in
    let found = c.args.found.now in
    let recorded = c.args.recorded.now in
    let new : VectorChanges = record { vector = c.args.vector; changes = c.in_ok-changes.changes } in
    subst (λ (ws : List VectorChanges). HasSpliced test found recorded x ws) (sym c.in_ok-push.ensures.items)
    (spliced_more test found recorded x vs new
    (c.in_ok-changes.ensures ∙ ap₂ (λ (fs rs : List EntryChange). spliced test fs rs) c.changes_in.ensures c.changes_in-2.ensures) have)

pub returns-clause-named : goal.returns-clause-named
returns-clause-named c x off =
    let vs = c.args.vectors.now.items in
    let new : VectorChanges = record { vector = c.args.vector; changes = c.in_ok-changes.changes } in
    named_push x vs new (ap (λ (ws : List VectorChanges). is_named x ws) (sym c.in_ok-push.ensures.items) ∙ off)
