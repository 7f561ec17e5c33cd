-- Proofs of `gather_piece`, src/pieces.rt.
use Rattle.std.proofs.lemmas.Result.{IfOk-weaker}
use Rattle.std.proofs.Common.{◌-◌, ℕ, List, length, slice_range, ap, ◌∙◌, subst, arith}
use Rattle.std.specs.List.{filter}
use Rattle.crew.specs.Partition.{end_of, piece_of}
use Rattle.edge_apply.proofs.Listed.{piece_inside}
use Rattle.edge_apply.specs.Words.{passes_words}
use Rattle.edge_fold.specs.Gathered.{AreGatheredFor}
use Rattle.edge_fold.specs.declared.apply_context.ApplyContext.{ApplyContext}
use Rattle.push_engine.specs.inside.Rows.{rows_to}
use Rattle.push_engine.specs.Sources.{passing_in}
use Rattle.push_engine.proofs.work.PushWork.gather_piece.Goals as goal

pub part_between-part-requires-clause-order : goal.part_between-part-requires-clause-order
part_between-part-requires-clause-order c =
    let w = c.args.self.now in
    let inside = piece_inside (length w.sources.items) w.partition c.args.piece w.whole c.requires.some c.requires.inside in
    let order = inside.0 in
    let start = c.piece-indices.ensures.start in
    let end = c.piece-indices.ensures.end in
    omega (arith, order, start, end)

pub part_between-part-requires-clause-inside : goal.part_between-part-requires-clause-inside
part_between-part-requires-clause-inside c =
    let w = c.args.self.now in
    let inside = piece_inside (length w.sources.items) w.partition c.args.piece w.whole c.requires.some c.requires.inside in
    let last = inside.1 in
    let end = c.piece-indices.ensures.end in
    let long = ap length c.deref.ensures.value in
    omega (arith, last, end, long)

pub returns-clause-given : goal.returns-clause-given
returns-clause-given c =
    IfOk-weaker c.gathered.result _ _ (λ found told m steps from test vectors sizes kernels is_from is_test x r by.
    let w = c.args.self.now in
    let edges = w.apply.flat.now.edges in
    let k = c.args.piece in
    let g = found in
    let folded = λ (us : List ℕ). rows_to (passes_words c.args.words) edges (passing_in w.tested from us) in
    let part = c.part_between-part.ensures
    ∙ ap (λ (us : List ℕ). slice_range us c.piece-indices.result.start c.piece-indices.result.end) c.deref.ensures.value
    ∙ ap (λ (s : ℕ). slice_range w.sources.items s c.piece-indices.result.end) c.piece-indices.ensures.start
    ∙ ap (λ (e : ℕ). slice_range w.sources.items (end_of w.partition (k - 1)) e) c.piece-indices.ensures.end in
    let reads = c.context-context.ensures.reads m steps (record { vectors = vectors; sizes = sizes; kernels = kernels }) in
    let has = c.in_ok-fold_part.ensures m steps from reads is_from (c.begin.ensures _ m steps) in
    let gathered = told m steps (folded c.part_between-part.result.now) test reads is_test has
    (ap (λ (f : ApplyContext). f.start) c.context-context.ensures.context) x r by in
    subst (λ (n : ℕ). AreGatheredFor n m steps (filter (λ e. test e.1) (folded (piece_of w.partition w.sources.items k))) g x r)
    (ap (λ (f : ApplyContext). f.vertices) c.context-context.ensures.context)
    (subst (λ (us : List ℕ). AreGatheredFor c.context-context.result.vertices m steps (filter (λ e. test e.1) (folded us)) g x r) part gathered))
    c.gathered.ensures.given
