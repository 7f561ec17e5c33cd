-- Proofs of `push_each`, src/whole_changes.rt.
use Rattle.std.proofs.Common.{rules, ◌+◌, ◌++◌, ℕ, ℤ, pos, get_or, sym, ap, ◌∙◌, FitsSigned, to_z, of_z, w64}
use Rattle.std.proofs.lemmas.Int.{to_z-of_z}
use Rattle.std.proofs.lemmas.List.{append-nil}
use Rattle.vectors.specs.Lanes.{lane_entry}
use Rattle.edge_fold.specs.Changed.{change_at}
use Rattle.edge_fold.proofs.ChangedWords.{no_vertices, one_more_changed}
use Rattle.edge_fold.proofs.whole_changes.push_each.Goals as goal

pub indices-init : goal.indices-init
indices-init c =
    let a = c.args in
    sym (ap (λ cs. a.changes.now.items ++ cs) (no_vertices (lane_entry a.old) (λ (v : ℕ). get_or a.new.now v (pos 0)) a.first) ∙ append-nil a.changes.now.items)

pub indices-preserved : goal.indices-preserved
indices-preserved c =
    let a = c.args in
    let old = lane_entry a.old in
    let new = λ (v : ℕ). get_or a.new.now v (pos 0) in
    let v = a.first + c.indices.index in
    let found = c.indices.changes.items in
    let before_fits : FitsSigned w64 c.get-before.result = search rules in
    let number_fits : FitsSigned w64 (new v) = search rules in
    one_more_changed old new a.first c.indices.index a.changes.now.items found c.push_change.new.changes.items c.indices.invariant
    (c.in_ok-push_change.ensures
    ∙ ap (λ (y : ℤ). found ++ change_at (λ _. y) (λ _. to_z w64 (of_z w64 (new v))) v) (to_z-of_z w64 c.get-before.result before_fits ∙ c.get-before.ensures)
    ∙ ap (λ (y : ℤ). found ++ change_at (λ _. old v) (λ _. y) v) (to_z-of_z w64 (new v) number_fits))
