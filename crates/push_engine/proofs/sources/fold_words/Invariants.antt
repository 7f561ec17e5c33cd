use Rattle.std.proofs.Common.{◌*◌}
use Rattle.std.specs.List.{filter, range_with_len}
use Rattle.edge_fold.proofs.Walks.{FoldsMore}
use Rattle.edge_apply.specs.Words.{passes_words}
use Rattle.push_engine.specs.inside.Rows.{rows_to}
use Rattle.push_engine.proofs.sources.fold_words.Given as goal

-- the edges from the vertices of the blocks so far are folded
abbrev pub invariant-rounds : goal.invariant-rounds
invariant-rounds l =
    FoldsMore l.input.context (rows_to (passes_words l.input.to) l.input.flat.now.edges (filter (passes_words l.words) (range_with_len 0 (64 * l.number)))) l.fn.scratch l.scratch
