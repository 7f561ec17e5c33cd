-- Proofs of `fold_weighted_walk`, src/source_folds.rt.
use Rattle.std.proofs.Common.{rules, take, FitsSigned, to_z, of_z, w64, ◌∙◌}
use Rattle.std.proofs.lemmas.Int.{to_z-of_z}
use Rattle.edge_apply.specs.Words.{passes_words}
use Rattle.edge_fold.specs.EntryNumbers.{entry_with}
use Rattle.edge_fold.specs.Contributions.{weighted_entries}
use Rattle.pull_engine.proofs.ColumnFolds.{kept_entries}
use Rattle.pull_engine.proofs.EntryFolds.{entries_of_round}
use Rattle.pull_engine.proofs.source_folds.fold_weighted_walk.Goals as goal

pub rounds-preserved : goal.rounds-preserved
rounds-preserved g c =
    let a = c.args in
    let p = passes_words a.from in
    let number = entry_with a.numbers in
    let came = c.reduce_columns-number.result in
    let fits : FitsSigned w64 came = search rules in
    let filled = c.fill_weighted-count in
    let kept = c.keep_members_weighted-kept in
    let all = g.W.NeighbourWalk.coming c.rounds.sources in
    let rest = g.W.NeighbourWalk.coming filled.new.self in
    let lent = weighted_entries (take kept.result kept.new.block) (take kept.result kept.new.weights) in
    let same = kept_entries p all filled.new.keys filled.new.weights filled.result lent filled.ensures.keys filled.ensures.weights kept.ensures.kept in
    entries_of_round p a.reduction number _ (to_z w64 (of_z w64 came)) all rest lent filled.result filled.ensures.rest same
    (to_z-of_z w64 came fits ∙ c.reduce_columns-number.ensures)
    ∙ c.rounds.invariant
