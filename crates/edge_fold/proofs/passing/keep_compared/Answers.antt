-- Proofs of `keep_compared`, src/passing.rt.
use Rattle.std.proofs.Common.{rules, ◌≡◌, ℕ, ℤ, ◌<◌, FitsSigned, to_z, of_z, w64, length, get_or, ap, sym, ◌∙◌}
use Rattle.std.proofs.lemmas.Int.{to_z-of_z}
use Rattle.algorithm_meaning.specs.Arithmetic.{compared}
use Rattle.vectors.specs.Lanes.{lane_entry}
use Rattle.edge_fold.proofs.Findings.{one_more_kept}
use Rattle.edge_fold.proofs.passing.keep_compared.Goals as goal

pub vertices-preserved : goal.vertices-preserved
vertices-preserved c =
    let a = c.args in
    let vs = a.vertices.now in
    let i = c.vertices.vertex-index in
    let inside : i < length vs = c.vertices-test.true in
    let n = to_z w64 (of_z w64 a.number) in
    let fits : FitsSigned w64 a.number = search rules in
    let test = λ (v : ℕ). compared a.comparison (lane_entry a.lane v) n in
    let is : c.compare.result ≡ compared a.comparison (lane_entry a.lane (get_or vs i 0)) a.number = search rules in
    one_more_kept test vs i c.compare.result c.vertices.kept.items a.kept.now.items c.keep_where.new.kept.items inside
    (is ∙ ap (λ (m : ℤ). compared a.comparison (lane_entry a.lane (get_or vs i 0)) m) (sym (to_z-of_z w64 a.number fits))) c.vertices.invariant c.in_ok-keep_where.ensures
