-- Proofs of `fold_chosen`, src/chosen_sources.rt.
use Rattle.std.proofs.Common.{rules, ◌-◌, ◌≤◌, length, map, take, drop, FitsSigned, to_z, of_z, w64, ◌∙◌, arith}
use Rattle.std.proofs.lemmas.Int.{to_z-of_z}
use Rattle.edge_apply.specs.Words.{is_set}
use Rattle.edge_fold.specs.EntryNumbers.{entry_with}
use Rattle.pull_engine.specs.inside.Columns.{entry_at}
use Rattle.pull_engine.proofs.Chosen.{rest_after}
use Rattle.pull_engine.proofs.EntryFolds.{entries_of_round}
use Rattle.pull_engine.proofs.chosen_sources.fold_chosen.Goals as goal

pub rounds-preserved : goal.rounds-preserved
rounds-preserved c =
    let es = c.args.list.now in
    let came = c.reduce_entries-number.result in
    let fits : FitsSigned w64 came = search rules in
    let low = c.rounds.low in
    let high = c.min-high.result in
    let kept = c.choose-kept in
    let order : low ≤ high = omega (arith, c.min-high.ensures, c.len-in-rounds.ensures.count, c.rounds.invariant.inside) in
    let within : high ≤ length es = omega (arith, c.min-high.ensures, c.len-in-rounds.ensures.count) in
    record {
      room = kept.ensures.room ∙ c.rounds.invariant.room;
      inside = within;
      folded = entries_of_round (is_set c.args.words.now) c.args.reduction (entry_with c.args.numbers) (to_z w64 c.rounds.number-bits) (to_z w64 (of_z w64 came)) (drop low es) (drop high es)
          (map (entry_at es) (take kept.result kept.new.indices)) (high - low)
          (rest_after es low high order) kept.ensures.chosen (to_z-of_z w64 came fits ∙ c.reduce_entries-number.ensures)
          ∙ c.rounds.invariant.folded;
    }
