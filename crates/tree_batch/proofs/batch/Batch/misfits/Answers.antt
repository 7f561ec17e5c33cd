-- Proofs of `misfits`, src/batch.rt.
use Rattle.std.proofs.Common.{◌≡◌, ◌<◌, ◌≤◌, true, false, List, length, get_or, sym, ap, ◌∙◌, arith}
use Rattle.std.proofs.lemmas.List.{take_all}
use Rattle.std.proofs.lemmas.List.Folds.{list_any_at}
use Rattle.std.specs.List.{list_any}
use Rattle.tree_batch.specs.declared.batch.Entry.{Entry}
use Rattle.tree_batch.specs.Edge.{entry_misfits, misfits}
use Rattle.tree_batch.proofs.BatchColumns.{none_more}
use Rattle.tree_batch.proofs.batch.Batch.misfits.Goals as goal

pub returns-then-misfits : goal.returns-then-misfits
unfolding misfits
returns-then-misfits c =
    let xs : List Entry = c.args.self.now in
    let n = c.args.vertices in
    let i = c.loop-index.index in
    let x : Entry = c.entry.result in
    let lt : i < length xs = omega (arith, c.loop-index-test.true, c.len-index-end.ensures) in
    let bad : entry_misfits n c.vertices_after-after.result (get_or xs i x) ≡ true =
    ap (entry_misfits n c.vertices_after-after.result) (sym (c.entry.ensures x)) ∙ sym c.misfits.ensures ∙ c.if-misfits.true in
    sym (list_any_at (entry_misfits n c.vertices_after-after.result) xs i x lt bad) ∙ ap (λ m. list_any (entry_misfits n m) xs) c.vertices_after-after.ensures

pub loop-index-preserved : goal.loop-index-preserved
loop-index-preserved c =
    let xs : List Entry = c.args.self.now in
    let n = c.args.vertices in
    let i = c.loop-index.index in
    let x : Entry = c.entry.result in
    let lt : i < length xs = omega (arith, c.loop-index-test.true, c.len-index-end.ensures) in
    let fits : entry_misfits n c.vertices_after-after.result (get_or xs i x) ≡ false =
    ap (entry_misfits n c.vertices_after-after.result) (sym (c.entry.ensures x)) ∙ sym c.misfits.ensures ∙ c.if-misfits.false in
    none_more (entry_misfits n c.vertices_after-after.result) xs i x lt c.loop-index.invariant fits

pub returns : goal.returns
unfolding misfits
returns c =
    let xs : List Entry = c.args.self.now in
    let n = c.args.vertices in
    let i = c.loop-index.index in
    let end : length xs ≤ i = omega (arith, c.loop-index-test.false, c.len-index-end.ensures) in
    sym c.loop-index.invariant ∙ ap (list_any (entry_misfits n c.vertices_after-after.result)) (take_all i xs end) ∙ ap (λ m. list_any (entry_misfits n m) xs) c.vertices_after-after.ensures
