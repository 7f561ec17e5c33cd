-- Proofs of `reduce_each`, src/entry_numbers.rt.
use Rattle.std.proofs.Common.{rules, ◌≡◌, ◌<◌, ◌+◌, ℤ, pos, length, get_or, drop, to_z, of_z, w64, ap, ◌∙◌}
use Rattle.algorithm_meaning.specs.Arithmetic.{reduced}
use Rattle.edge_fold.specs.EntryNumbers.{entry_with, reduced_over}
use Rattle.edge_fold.proofs.EntryRows.{one_entry_more}
use Rattle.edge_fold.proofs.entry_numbers.reduce_each.Goals as goal

pub entries-preserved : goal.entries-preserved
entries-preserved g c =
    let a = c.args in
    let k = c.entries.index in
    let es = g.E.NeighbourEntries.entries a.entries.now in
    let f = entry_with a.numbers in
    let inside : k < length es = search rules in
    let n = to_z w64 c.entries.number-bits in
    let e = get_or es k (0, pos 1) in
    let step : to_z w64 (of_z w64 c.reduce-number.result) ≡ reduced a.reduction n (f e.0 e.1) = search rules in
    ap (λ (m : ℤ). reduced_over a.reduction f m (drop (k + 1) es)) step
    ∙ one_entry_more a.reduction f n k es inside
    ∙ c.entries.invariant
