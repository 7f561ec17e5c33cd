-- Proofs of `fold_rows`, src/sources.rt.
use Rattle.std.proofs.Common.{◌<◌, ◌≤◌, ◌++◌, ◌+◌, length, take, get_or, refl, ap}
use Rattle.std.proofs.lemmas.List.{take_all}
use Rattle.std.specs.Option.{option_copied}
use Rattle.vertex_blocks.specs.Blocks.{vertices_at}
use Rattle.push_engine.proofs.BlockRows.{row_of_block}
use Rattle.push_engine.specs.inside.Rows.{rows_to}
use Rattle.edge_apply.specs.Words.{passes_words}
use Rattle.edge_fold.proofs.Walks.{folded_along}
use Rattle.push_engine.proofs.Walked.{rows_next}
use Rattle.push_engine.proofs.sources.fold_rows.Goals as goal

pub sources-preserved : goal.sources-preserved
sources-preserved c =
    let us = c.args.sources.now in
    let i = c.sources.source-index in
    let to = passes_words c.args.input.to in
    let edges = c.args.input.flat.now.edges in
    let inside : i < length us = c.sources-test.true in
    λ m steps es are has. folded_along c.args.input.context m steps _ (es ++ rows_to to edges (take (i + 1) us)) c.fold_row.new.scratch (rows_next to edges es us i inside)
    (row_of_block c.args.input.context to edges (get_or us i 0) (vertices_at (option_copied c.out_block-found.result)) c.sources.scratch c.fold_row.new.scratch
    (c.out_block-found.ensures (get_or us i 0) refl) c.in_ok-fold_row.ensures m steps (es ++ rows_to to edges (take i us)) are (c.sources.invariant m steps es are has))

pub returns : goal.returns
returns c m steps es are has =
    let us = c.args.sources.now in
    let i = c.sources.source-index in
    let to = passes_words c.args.input.to in
    let edges = c.args.input.flat.now.edges in
    let all : length us ≤ i = c.sources-test.false in
    folded_along c.args.input.context m steps (es ++ rows_to to edges (take i us)) (es ++ rows_to to edges us) c.sources.scratch (ap (λ ks. es ++ rows_to to edges ks) (take_all i us all))
    (c.sources.invariant m steps es are has)
