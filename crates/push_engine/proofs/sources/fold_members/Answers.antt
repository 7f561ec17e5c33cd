-- Proofs of `fold_members`, src/sources.rt.
use Rattle.std.proofs.Common.{ℕ, List, [], ◌∷◌, refl, sym, ◌∙◌, subst}
use Rattle.edge_fold.proofs.Walks.{HasWalked, walk_begun, walk_more}
use Rattle.vertex_sets.proofs.Ascending.{rises}
use Rattle.push_engine.specs.inside.Rows.{rows_to}
use Rattle.edge_apply.specs.Words.{passes_words}
use Rattle.std.specs.Option.{option_copied}
use Rattle.vertex_blocks.specs.Blocks.{vertices_at}
use Rattle.push_engine.proofs.BlockRows.{row_of_block}
use Rattle.push_engine.proofs.RowFolds.{agree_on_rows, rows_to-append}
use Rattle.push_engine.proofs.Walked.{one_source, walked_all}
use Rattle.push_engine.proofs.sources.fold_members.Goals as goal

pub sources-preserved : goal.sources-preserved
sources-preserved c =
    let a = c.args in
    let to = passes_words a.input.to in
    let edges = a.input.flat.now.edges in
    let u = c.in-Some.source in
    let then = c.fold_row.new.scratch in
    walk_more a.input.context (rows_to to edges) a.set.now.members c.sources.source-iterator (u ∷ []) c.next.new.self a.scratch.now c.sources.scratch then
    (rows_to-append to edges) (sym c.in-Some.ensures.steps) (one_source a.input.context to edges u c.sources.scratch then
    (row_of_block a.input.context to edges u (vertices_at (option_copied c.out_block-found.result)) c.sources.scratch then
    (c.out_block-found.ensures u refl) c.in_ok-fold_row.ensures)) c.sources.invariant

pub returns : goal.returns
returns c m steps from are is =
    let a = c.args in
    let members = a.set.now.members in
    walked_all a.input.context a.input.flat.now.edges members c.sources.source-iterator a.scratch.now c.sources.scratch from (passes_words a.input.to) c.in-None.ensures.steps.0
    (rises a.set.now.vertices members c.iter-source-items.ensures.valid) (agree_on_rows from members a.input.flat.now.edges (λ u l. sym (is u))) c.sources.invariant m steps are

pub sources-init : goal.sources-init
sources-init c =
    let a = c.args in
    let rows_of = rows_to (passes_words a.input.to) a.input.flat.now.edges in
    subst (λ (left : List ℕ). HasWalked a.input.context rows_of a.set.now.members left a.scratch.now a.scratch.now)
    (sym (c.into_iter-source-iterator.ensures.into_iter_gives ∙ c.iter-source-items.ensures.members)) (walk_begun a.input.context rows_of a.set.now.members a.scratch.now refl)
