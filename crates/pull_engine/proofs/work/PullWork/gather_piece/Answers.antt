-- Proofs of `gather_piece`, src/pieces.rt.
use Rattle.std.proofs.lemmas.Result.{IfOk-weaker}
use Rattle.std.proofs.Common.{◌≡◌, ◌-◌, ℕ, true, List, slice_range, refl, sym, ap, ◌∙◌, subst}
use Rattle.std.specs.List.{filter, range_with_len}
use Rattle.weighted_edges.specs.Edge.{Edge}
use Rattle.flat_snapshot.specs.Digraph.{Digraph}
use Rattle.edge_fold.specs.Gathered.{AreGatheredFor}
use Rattle.crew.specs.Partition.{end_of, piece_of}
use Rattle.edge_apply.proofs.Listed.{filter_all}
use Rattle.pull_engine.specs.Columns.{columns}
use Rattle.edge_apply.specs.Words.{passes_words}
use Rattle.edge_fold.specs.declared.apply_context.ApplyContext.{ApplyContext}
use Rattle.pull_engine.proofs.Merging.{columns_agree}
use Rattle.pull_engine.proofs.Rows.{part_of_range}
use Rattle.pull_engine.proofs.work.PullWork.gather_piece.Goals as goal

pub returns : goal.returns
returns c =
    IfOk-weaker c.gathered.result _ _ (λ found told m steps from to vectors sizes kernels is_from is_to x r by.
    let w = c.args.self.now in
    let g = w.apply.flat.now in
    let k = c.args.piece in
    let found = found in
    let p = c.range-range.result in
    let of_piece = c.range-range.ensures in
    let passes = passes_words p.from in
    let all = range_with_len 0 g.vertices in
    let row : range_with_len p.low (p.high - p.low) ≡ piece_of w.partition all k =
    sym (part_of_range g.vertices p.low p.high of_piece.order of_piece.within)
    ∙ ap (λ (s : ℕ). slice_range all s p.high) of_piece.low
    ∙ ap (λ (e : ℕ). slice_range all (end_of w.partition (k - 1)) e) of_piece.high in
    let reads = of_piece.reads m steps (record { vectors = vectors; sizes = sizes; kernels = kernels }) in
    let has = c.in_ok-fold_range.ensures m steps to reads (of_piece.to m to is_to) in
    let whole = columns passes p.flat.now.edges (filter to (range_with_len p.low (p.high - p.low))) in
    let gathered = told m steps whole (λ _. true) reads (λ v. refl) has (ap (λ (f : ApplyContext). f.start) of_piece.context) x r by in
    let same = filter_all (λ (e : Edge). true) whole (λ e. refl)
    ∙ ap (λ (d : Digraph). columns passes d.edges (filter to (range_with_len p.low (p.high - p.low)))) of_piece.flat
    ∙ ap (λ (us : List ℕ). columns passes g.edges (filter to us)) row
    ∙ columns_agree g passes from of_piece.graph (λ v l. of_piece.from v ∙ w.passing m from vectors sizes is_from v l) (filter to (piece_of w.partition all k)) in
    subst (λ (n : ℕ). AreGatheredFor n m steps (columns from g.edges (filter to (piece_of w.partition all k))) found x r) (ap (λ (f : ApplyContext). f.vertices) of_piece.context)
    (subst (λ (es : List Edge). AreGatheredFor p.context.vertices m steps es found x r) same gathered))
    c.gathered.ensures.given
