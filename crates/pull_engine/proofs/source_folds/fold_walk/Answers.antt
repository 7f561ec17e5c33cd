-- Proofs of `fold_walk`, src/source_folds.rt.
use Rattle.std.proofs.Common.{rules, ℕ, List, FitsSigned, to_z, of_z, w64, ap, sym, ◌∙◌}
use Rattle.std.specs.List.{filter}
use Rattle.std.specs.Map.{keys_of}
use Rattle.std.proofs.lemmas.Int.{to_z-of_z}
use Rattle.edge_apply.specs.Words.{passes_words}
use Rattle.edge_fold.specs.ReducedContributions.{reduced_with}
use Rattle.pull_engine.proofs.Deciding.{all_of_round, keys_behind}
use Rattle.pull_engine.proofs.EntryFolds.{over_passing}
use Rattle.pull_engine.proofs.source_folds.fold_walk.Goals as goal

pub rounds-preserved : goal.rounds-preserved
rounds-preserved g c =
    let p = passes_words c.args.from in
    let r = c.args.reduction in
    let number = g.N.SourceNumbers.number c.args.numbers.now in
    let came = c.reduce_sources-number.result in
    let fits : FitsSigned w64 came = search rules in
    let all = g.W.NeighbourWalk.coming c.rounds.sources in
    let rest = g.W.NeighbourWalk.coming c.fill-count.new.self in
    record {
      room = search rules;
      folded = over_passing r number (to_z w64 (of_z w64 came)) p rest
          ∙ ap (λ (us : List ℕ). reduced_with r number (to_z w64 (of_z w64 came)) (filter p us)) (keys_behind c.fill-count.result all rest c.fill-count.ensures.rest)
          ∙ all_of_round p r number _ (to_z w64 (of_z w64 came))
          (keys_of all) c.fill-count.new.block c.keep_members-kept.new.block c.fill-count.result c.keep_members-kept.result c.fill-count.ensures.filled c.keep_members-kept.ensures.kept
          (to_z-of_z w64 came fits ∙ c.reduce_sources-number.ensures)
          ∙ sym (over_passing r number _ p all)
          ∙ c.rounds.invariant.folded;
    }
