-- Proofs of `merge_gathered`, src/pieces.rt.
use Rattle.std.proofs.lemmas.Result.{IfOk-weaker}
use Rattle.std.proofs.Common.{ℕ, true, List, refl, sym, ap, ◌∙◌, subst, arith}
use Rattle.std.specs.List.{filter, range_with_len}
use Rattle.std.proofs.lemmas.List.FromFn.{length-range_with_len}
use Rattle.crew.specs.Partition.{AreEnds}
use Rattle.weighted_edges.specs.Edge.{Edge}
use Rattle.kernels.specs.EdgeApply.{after_edges}
use Rattle.kernels.specs.Value.{entry}
use Rattle.edge_fold.specs.Between.{edges_between}
use Rattle.edge_fold.specs.Changed.{changed}
use Rattle.crew.specs.Pieces.{pieces_of}
use Rattle.edge_apply.specs.Pieces.{EachGathered}
use Rattle.edge_apply.proofs.Listed.{filter_all}
use Rattle.pull_engine.specs.Pieces.{edges_into_piece}
use Rattle.edge_fold.specs.declared.apply_context.ApplyContext.{ApplyContext}
use Rattle.pull_engine.proofs.Merging.{each_gathered, merged}
use Rattle.pull_engine.proofs.work.PullWork.merge_gathered.Goals as goal

pub returns-clause-changes : goal.returns-clause-changes
returns-clause-changes c =
    IfOk-weaker c.changes.result _ _ (λ found told answers order m steps from to vectors sizes kernels is_from is_to x r by long.
    let w = c.args.self.now in
    let fs = c.args.found.now in
    let edges = w.apply.flat.now.edges in
    let edges_of = edges_into_piece w from to in
    let count = (ap (λ (f : ApplyContext). f.vertices) c.context-context.ensures.context) in
    let old = entry m.vectors x in
    let new = λ (es : List Edge). entry (after_edges steps m.sets m.vectors es m.vectors) x in
    let each = subst (λ (n : ℕ). EachGathered n m steps edges_of fs) (sym count) (each_gathered w fs m steps from to answers vectors sizes kernels is_from is_to) in
    let has = c.in_ok-join_all.ensures m steps edges_of each (c.begin.ensures _ m steps) in
    let whole_list = subst (λ (n : ℕ). AreEnds 0 n w.partition) (sym (length-range_with_len 0 w.apply.flat.now.vertices)) w.whole in
    let whole = merged _ m steps w.apply.flat.now from to w.partition (range_with_len 0 w.apply.flat.now.vertices)
    (pieces_of fs) c.join_all.new.scratch c.context-context.ensures.graph whole_list refl order has in
    told m steps (edges_between from to edges) (λ _. true) (c.context-context.ensures.reads m steps (record { vectors = vectors; sizes = sizes; kernels = kernels }))
    (λ v. refl) whole (ap (λ (f : ApplyContext). f.start) c.context-context.ensures.context) x r by (omega (arith, count, long))
    ∙ ap (λ (n : ℕ). changed n old (new (filter (λ e. true) (edges_between from to edges)))) count
    ∙ ap (λ (es : List Edge). changed w.apply.flat.now.vertices old (new es)) (filter_all (λ _. true) (edges_between from to edges) (λ e. refl)))
    c.changes.ensures.changes
