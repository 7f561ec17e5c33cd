-- Proofs of `pull_piece`, src/pieces.rt.
use Rattle.std.proofs.Common.{◌-◌, ℕ, ℤ, List, sym, ap, ◌∙◌, subst}
use Rattle.std.proofs.lemmas.Result.{IfOk-weaker}
use Rattle.weighted_edges.specs.Edge.{Edge}
use Rattle.flat_snapshot.specs.Digraph.{Digraph}
use Rattle.crew.specs.Partition.{end_of}
use Rattle.edge_apply.proofs.Filtered.{between_agree}
use Rattle.edge_fold.specs.Between.{edges_between}
use Rattle.edge_apply.specs.Words.{passes_words}
use Rattle.pull_engine.specs.Ranges.{AreChangesFrom, shape_vector}
use Rattle.pull_engine.specs.inside.Ranges.{IsShapeOfApply}
use Rattle.edge_fold.specs.declared.apply_context.ApplyContext.{ApplyContext}
use Rattle.pull_engine.specs.inside.Masked.{IsMaskOf}
use Rattle.pull_engine.specs.inside.Sources.{is_source}
use Rattle.pull_engine.proofs.Masking.{mask_alike}
use Rattle.pull_engine.proofs.Shaped.{some_weaker}
use Rattle.pull_engine.proofs.work.PullWork.pull_piece.Goals as goal

pub pull_shape-requires-clause-shape : goal.pull_shape-requires-clause-shape
pull_shape-requires-clause-shape c =
    let w = c.args.self.now in
    subst (λ (f : ApplyContext). IsShapeOfApply w.shape f.first.now f.second) (sym c.range-range.ensures.context) w.shaped

pub pull_shape-requires-clause-mask : goal.pull_shape-requires-clause-mask
pull_shape-requires-clause-mask c =
    let w = c.args.self.now in
    let p = c.range-range.result in
    let of_piece = c.range-range.ensures in
    let vs = w.apply.vectors.now.vectors in
    let ours = mask_alike w.shape vs (is_source w.sources) (passes_words p.from) w.masked.items (λ v. sym (of_piece.from v)) w.mask in
    subst (λ (f : ApplyContext). IsMaskOf w.shape f.vectors.now.vectors (passes_words p.from) p.masked.now) (sym of_piece.context)
    (subst (λ (xs : List ℤ). IsMaskOf w.shape vs (passes_words p.from) xs) (sym of_piece.masked) ours)

pub returns : goal.returns
returns c =
    let w = c.args.self.now in
    let k = c.args.piece in
    let g = w.apply.flat.now in
    let p = c.range-range.result in
    let of_piece = c.range-range.ensures in
    let passes = passes_words p.from in
    IfOk-weaker c.pull_shape.result _ _
    (λ cs is. some_weaker (shape_vector w.shape) _ _
    (λ x changed m steps from to vectors sizes kernels is_from is_to.
    let es = edges_between from to g.edges in
    let same = ap (λ (d : Digraph). edges_between passes to d.edges) of_piece.flat
    ∙ between_agree g passes from to of_piece.graph (λ v l. of_piece.from v ∙ w.passing m from vectors sizes is_from v l) in
    subst (λ (e : ℕ). AreChangesFrom x (end_of w.partition (k - 1)) (e - end_of w.partition (k - 1)) es m steps cs.items) of_piece.high
    (subst (λ (s : ℕ). AreChangesFrom x s (p.high - s) es m steps cs.items) of_piece.low
    (subst (λ (fs : List Edge). AreChangesFrom x p.low (p.high - p.low) fs m steps cs.items) same
    (changed m steps to (of_piece.reads m steps (record { vectors = vectors; sizes = sizes; kernels = kernels })) (of_piece.to m to is_to)))))
    is)
    c.pull_shape.ensures
