-- Proofs of `reduce_all_entries`, src/entry_numbers.rt.
use Rattle.std.proofs.Common.{rules, ◌≡◌, ◌∷◌, FitsSigned, to_z, of_z, w64, ◌∙◌}
use Rattle.std.proofs.lemmas.Int.{to_z-of_z}
use Rattle.edge_fold.specs.EntryNumbers.{entry_with}
use Rattle.edge_fold.proofs.EntryRows.{is_reduced_over}
use Rattle.edge_fold.proofs.entry_numbers.reduce_all_entries.Goals as goal

pub returns : goal.returns
returns c =
    let a = c.args in
    let first = c.in_ok-first.first.now in
    let rest = c.in_ok-first.rest.now in
    let weight = c.in_ok-weight.weight.now in
    let later = c.in_ok-weight.weights_of_rest.now in
    let whole : a.sources.now ≡ first ∷ rest = search rules in
    let weighed : a.weights.now ≡ weight ∷ later = search rules in
    let begun : to_z w64 (of_z w64 c.of-begun.result) ≡ entry_with a.numbers first weight = search rules in
    let fits : FitsSigned w64 c.reduce_columns-number.result = search rules in
    is_reduced_over a.reduction (entry_with a.numbers) first weight a.sources.now rest a.weights.now later (to_z w64 (of_z w64 c.reduce_columns-number.result))
    (to_z w64 (of_z w64 c.of-begun.result)) whole weighed begun
    (to_z-of_z w64 c.reduce_columns-number.result fits ∙ c.reduce_columns-number.ensures)
