-- Proofs of `pull_folded`, src/changes.rt.
use Rattle.std.proofs.lemmas.Result.{IfOk-weaker}
use Rattle.std.proofs.Common.{◌≡◌, ◌-◌, ℕ, true, List, refl, ap, ap₂, ◌∙◌, arith}
use Rattle.std.specs.List.{filter, range_with_len}
use Rattle.weighted_edges.specs.Edge.{Edge}
use Rattle.kernels.specs.EdgeApply.{after_edges}
use Rattle.kernels.specs.Value.{entry}
use Rattle.edge_fold.specs.Between.{edges_between}
use Rattle.edge_fold.specs.Changed.{changed}
use Rattle.edge_fold.proofs.Walks.{folded_along}
use Rattle.edge_apply.specs.Words.{passes_words}
use Rattle.edge_apply.proofs.Filtered.{all_pass}
use Rattle.edge_apply.proofs.Listed.{rises_filtered}
use Rattle.vertex_sets.proofs.Ascending.{rises_range}
use Rattle.pull_engine.specs.Columns.{columns}
use Rattle.pull_engine.proofs.ColumnFolds.{folded_columns}
use Rattle.pull_engine.proofs.Merging.{filtered_destinations}
use Rattle.pull_engine.proofs.changes.pull_folded.Goals as goal

pub returns-clause-changes : goal.returns-clause-changes
returns-clause-changes c =
    IfOk-weaker c.changes.result _ _ (λ found told m steps test are count starts is x r by long.
    let p = c.args.range in
    let g = p.flat.now in
    let from = passes_words p.from in
    let edges = edges_between from test g.edges in
    let all = range_with_len 0 g.vertices in
    let old = entry m.vectors x in
    let new = λ (es : List Edge). entry (after_edges steps m.sets m.vectors es m.vectors) x in
    let low = c.requires.low in
    let high = c.requires.high in
    let long_row : p.high - p.low ≡ g.vertices = omega (arith, low, high) in
    let folded = folded_along p.context m steps _ (columns from g.edges (filter test all)) c.fold_range.new.scratch
    (ap (λ (us : List ℕ). columns from g.edges (filter test us)) (ap₂ range_with_len low long_row)) (c.in_ok-fold_range.ensures m steps test are is) in
    let has = folded_columns p.context m steps from test (filter test all) g.edges c.fold_range.new.scratch (rises_filtered test 0 all (rises_range 0 g.vertices))
    (filtered_destinations g test c.requires.graph) folded in
    told m steps edges (λ v. true) are (λ v. refl) has starts x r by (omega (arith, count, long))
    ∙ ap (λ (n : ℕ). changed n old (new (filter (λ e. true) edges))) count
    ∙ ap (λ (es : List Edge). changed g.vertices old (new es)) (all_pass edges))
    c.changes.ensures.changes
