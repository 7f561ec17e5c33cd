-- Proofs of `next`, src/batch_iter.rt.
use Rattle.std.proofs.Common.{◌≡◌, suc, ◌+◌, ◌<◌, ◌∷◌, List, get_or, drop, drop-cons, length, sym, ap, ◌∙◌, arith}
use Rattle.tree_batch.specs.declared.batch.Entry.{Entry}
use Rattle.tree_batch.proofs.batch_iter.BatchIterIterator.next.Goals as goal

pub returns-clause-steps : goal.returns-clause-steps
returns-clause-steps c =
    let xs : List Entry = c.self.inside.batch.now in
    let i = c.self.inside.next in
    let x : Entry = c.entry-entry.result in
    let lt : i < length xs = omega (arith, c.if-self-len.false, c.len.ensures) in
    let following : suc i ≡ i + 1 = omega arith in
    sym c.self.view_is ∙ drop-cons xs i x lt ∙ ap (λ k. get_or xs i x ∷ drop k xs) following ∙ ap (λ (z : Entry). z ∷ drop (i + 1) xs) (sym (c.entry-entry.ensures x))
