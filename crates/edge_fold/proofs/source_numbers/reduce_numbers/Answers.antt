-- Proofs of `reduce_numbers`, src/source_numbers.rt.
use Rattle.std.proofs.Common.{rules, ◌≡◌, ◌∷◌, FitsSigned, to_z, of_z, w64, ◌∙◌}
use Rattle.std.proofs.lemmas.Int.{to_z-of_z}
use Rattle.edge_fold.proofs.Columns.{is_reduced_to}
use Rattle.edge_fold.proofs.source_numbers.reduce_numbers.Goals as goal

pub returns : goal.returns
returns g c =
    let a = c.args in
    let r = a.reduction in
    let numbers = g.N.SourceNumbers.number a.numbers.now in
    let first = c.in_ok-first.first.now in
    let rest = c.in_ok-first.rest.now in
    let whole : a.sources.now ≡ first ∷ rest = search rules in
    let fits : FitsSigned w64 c.reduce_rest-number.result = search rules in
    let fits_too : FitsSigned w64 c.of.result = search rules in
    is_reduced_to r numbers first a.sources.now rest (to_z w64 (of_z w64 c.reduce_rest-number.result)) (to_z w64 (of_z w64 c.of.result)) whole
    (to_z-of_z w64 c.of.result fits_too ∙ c.of.ensures)
    (to_z-of_z w64 c.reduce_rest-number.result fits ∙ c.reduce_rest-number.ensures)
