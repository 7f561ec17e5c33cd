-- Proofs of `piece`, src/merging.rt.
use Rattle.std.proofs.lemmas.Result.{IfOk-weaker}
use Rattle.std.proofs.Common.{◌-◌, ◌≤◌, ℕ, true, List, refl, sym, ap, ◌∙◌, subst, arith}
use Rattle.std.specs.List.{filter, flat_map}
use Rattle.weighted_edges.specs.Edge.{Edge}
use Rattle.kernels.specs.Value.{entry}
use Rattle.crew.specs.Partition.{end_of}
use Rattle.crew.specs.Pieces.{pieces_of}
use Rattle.edge_fold.specs.declared.apply_context.ApplyContext.{ApplyContext}
use Rattle.edge_fold.specs.Changed.{changed, changed_from}
use Rattle.edge_fold.specs.Gathered.{is_in_range}
use Rattle.kernels.specs.EdgeApply.{after_edges}
use Rattle.edge_apply.specs.Pieces.{EachGathered}
use Rattle.edge_apply.proofs.Listed.{filter_all, piece_inside}
use Rattle.edge_apply.proofs.Told.{changed_between}
use Rattle.edge_apply.proofs.merging.RangeMergeWork.piece.Goals as goal

pub overflow_cast-low : goal.overflow_cast-low
overflow_cast-low c =
    let w = c.args.self.now in
    let inside = piece_inside w.apply.flat.now.vertices w.ranges c.args.piece w.whole c.requires.piece.0 c.requires.piece.1 in
    let order = inside.0 in
    let last = inside.1 in
    let start = c.piece-range.ensures.start in
    let few = w.few in
    omega (arith, order, last, start, few)

pub overflow_cast-high : goal.overflow_cast-high
overflow_cast-high c =
    let w = c.args.self.now in
    let inside = piece_inside w.apply.flat.now.vertices w.ranges c.args.piece w.whole c.requires.piece.0 c.requires.piece.1 in
    let last = inside.1 in
    let end = c.piece-range.ensures.end in
    let few = w.few in
    omega (arith, last, end, few)

pub returns-clause-out : goal.returns-clause-out
returns-clause-out c =
    IfOk-weaker c.changes.result _ _ (λ found told m steps edges_of vectors sizes kernels up each x r by long.
    let w = c.args.self.now in
    let k = c.args.piece in
    let n = w.apply.flat.now.vertices in
    let low = c.piece-range.result.start in
    let high = c.piece-range.result.end in
    let inside = piece_inside n w.ranges k w.whole c.requires.piece.0 c.requires.piece.1 in
    let all = flat_map edges_of (pieces_of w.found.now) in
    let part = filter (λ (e : Edge). is_in_range low high e.1) all in
    let count = ap (λ (f : ApplyContext). f.vertices) c.context-context.ensures.context in
    let starts = ap (λ (f : ApplyContext). f.start) c.context-context.ensures.context in
    let reads = c.context-context.ensures.reads m steps (record { vectors = vectors; sizes = sizes; kernels = kernels }) in
    let given = subst (λ (v : ℕ). EachGathered v m steps edges_of w.found.now) (sym count) each in
    let has = c.in_ok-join_between.ensures m steps edges_of up given (c.begin.ensures _ m steps) in
    let old = entry m.vectors x in
    let new = λ (es : List Edge). entry (after_edges steps m.sets m.vectors es m.vectors) x in
    let order = let l = inside.0 in let s = c.piece-range.ensures.start in let e = c.piece-range.ensures.end in let o : low ≤ high = omega (arith, l, s, e) in o in
    let below = let l = inside.1 in let e = c.piece-range.ensures.end in let b : high ≤ n = omega (arith, l, e) in b in
    told m steps part (λ _. true) reads (λ v. refl) has starts x r by (omega (arith, count, long))
    ∙ ap (λ (v : ℕ). changed v old (new (filter (λ e. true) part))) count
    ∙ ap (λ (es : List Edge). changed n old (new es)) (filter_all (λ _. true) part (λ e. refl))
    ∙ changed_between n low high x r m steps all by long order below
    ∙ ap (λ (s : ℕ). changed_from old (new all) s (high - s)) c.piece-range.ensures.start
    ∙ ap (λ (e : ℕ). changed_from old (new all) (end_of w.ranges (k - 1)) (e - end_of w.ranges (k - 1))) c.piece-range.ensures.end)
    c.changes.ensures.changes
