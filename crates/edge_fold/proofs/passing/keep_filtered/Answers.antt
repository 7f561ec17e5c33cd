-- Proofs of `keep_filtered`, src/passing.rt.
use Rattle.std.proofs.Common.{rules, ◌++◌, ℕ, ℤ, List, FitsSigned, to_z, of_z, w64, sym, ap, ◌∙◌, subst}
use Rattle.std.proofs.lemmas.Int.{to_z-of_z}
use Rattle.std.proofs.lemmas.List.Elements.{filter_agree}
use Rattle.std.proofs.lemmas.Result.{on_ok_weaker}
use Rattle.algorithm_meaning.specs.Arithmetic.{compared}
use Rattle.algorithm_meaning.specs.Function.{result_of}
use Rattle.algorithm_meaning.specs.Value.{entry}
use Rattle.kernels.specs.Shapes.{HasFilterShape}
use Rattle.kernels.specs.declared.shape.FilterShape.{FilterShape}
use Rattle.vectors.specs.Lanes.{lane_entry}
use Rattle.edge_fold.proofs.passing.keep_filtered.Goals as goal

pub returns-in-Compare : goal.returns-in-Compare
returns-in-Compare c =
    let x = c.in-Compare.vector in
    let o = c.in-Compare.comparison in
    let n = c.in-Compare.number in
    let vs = c.args.vertices.now in
    let fits : FitsSigned w64 n = search rules in
    on_ok_weaker c.keep_compared.result
    (λ kept m test vectors sizes is.
    let shape = λ (v : ℕ). subst (λ (s : FilterShape). HasFilterShape s m v (result_of is.steps m.sets m.vectors v)) c.in-Compare.is
    (c.shape.ensures is.steps m c.args.context.sizes.now v is.of sizes) in
    kept ∙ ap (λ (ks : List ℕ). c.args.kept.now.items ++ ks)
    (filter_agree (λ v. compared o (lane_entry c.lane-lane.result v) (to_z w64 (of_z w64 n))) test
    (λ v. ap (λ (e : ℤ). compared o (lane_entry c.lane-lane.result v) e) (to_z-of_z w64 n fits)
    ∙ ap (λ (e : ℤ). compared o e n) (c.lane-lane.ensures v ∙ ap (λ (ls : List (List ℤ)). entry ls x v) vectors) ∙ sym (shape v) ∙ sym (is.result v)) vs))
    c.keep_compared.ensures
