-- Proofs of `changes_of_all`, src/appended.rt.
use Rattle.std.proofs.Common.{◌≤◌, ◌++◌, List, length, sym, ap, ◌∙◌}
use Rattle.std.proofs.lemmas.List.{take_all}
use Rattle.vectors.specs.declared.changes.EntryChange.{EntryChange}
use Rattle.edge_fold.specs.Changed.{changes_of}
use Rattle.edge_apply.specs.inside.Merged.{changes_in_parts}
use Rattle.edge_apply.proofs.PartChanges.{parts_next}
use Rattle.edge_apply.proofs.appended.changes_of_all.Goals as goal

pub parts-preserved : goal.parts-preserved
parts-preserved c =
    let x = c.args.vector in
    let fs = c.args.parts.now in
    c.in_ok-extend_from_slice.ensures.items
    ∙ ap (λ (cs : List EntryChange). c.parts.changes.items ++ cs) c.changes_in.ensures
    ∙ ap (λ (cs : List EntryChange). cs ++ changes_of x c.part-item.result.out.vectors.items) c.parts.invariant
    ∙ sym (parts_next x fs c.parts.part-index c.part-item.result c.parts-test.true c.part-item.is)

pub returns : goal.returns
returns c =
    let fs = c.args.parts.now in
    let all : length fs ≤ c.parts.part-index = c.parts-test.false in
    c.parts.invariant ∙ ap (changes_in_parts c.args.vector) (take_all c.parts.part-index fs all)
