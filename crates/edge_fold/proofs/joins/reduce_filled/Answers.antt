-- Proofs of `reduce_filled`, src/joins.rt.
use Rattle.std.proofs.Common.{rules, ◌≡◌, ◌<◌, length, get_or, pos, ap, ◌∙◌, arith, FitsSigned, to_z, of_z, w64, ℤ}
use Rattle.std.proofs.lemmas.Int.{to_z-of_z}
use Rattle.algorithm_meaning.specs.Arithmetic.{reduced}
use Rattle.edge_fold.specs.Between.{firsts}
use Rattle.edge_fold.proofs.Filled.{other_more, value_more}
use Rattle.edge_fold.proofs.WeightColumns.{first_at, firsts-length}
use Rattle.edge_fold.proofs.joins.reduce_filled.Goals as goal

pub vertices-preserved : goal.vertices-preserved
vertices-preserved g c =
    let a = c.args in
    let l = c.vertices in
    let es = g.E.NeighbourEntries.entries a.neighbours.now in
    let ds = firsts es in
    let u = c.neighbour-at.result in
    let number = to_z w64 (of_z w64 a.number) in
    let within : l.index < length es = omega (arith, c.vertices-test.true, c.len-count.ensures) in
    let count = firsts-length es in
    let more : l.index < length ds = omega (arith, within, count) in
    let at = c.neighbour-at.ensures ∙ first_at es l.index (0, pos 1) 0 within in
    let low : u < a.filled = search rules in
    let inside : u < length l.values = search rules in
    let fits : FitsSigned w64 c.reduce.result = search rules in
    let was_fits : FitsSigned w64 (get_or l.values u (pos 0)) = search rules in
    let is : to_z w64 (of_z w64 c.reduce.result) ≡ reduced a.reduction (get_or l.values u (pos 0)) number =
    to_z-of_z w64 c.reduce.result fits ∙ c.reduce.ensures ∙ ap (λ (y : ℤ). reduced a.reduction y number) (to_z-of_z w64 (get_or l.values u (pos 0)) was_fits) in
    record {
      reduced = λ v. value_more a.reduction number l.values ds l.index u v (to_z w64 (of_z w64 c.reduce.result)) _ more at inside is (l.invariant.reduced v);
      others = λ v h past. other_more a.reduction number ds l.index u v h _ more at (λ e. omega (arith, low, past, e)) (l.invariant.others v h past);
    }
