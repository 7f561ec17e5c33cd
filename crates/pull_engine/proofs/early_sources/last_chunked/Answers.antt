-- Proofs of `last_chunked`, src/early_sources.rt.
use Rattle.std.proofs.Common.{rules, ◌≡◌, ◌≤◌, ◌-◌, Some, get_or, ℕ, List, length, arith, ap, ◌∙◌}
use Rattle.std.specs.List.{filter}
use Rattle.std.specs.Map.{keys_of}
use Rattle.kernels.specs.declared.columns.TheConstants.{PAIRS}
use Rattle.edge_apply.specs.Words.{passes_words}
use Rattle.pull_engine.specs.EarlySources.{last_or}
use Rattle.pull_engine.proofs.Deciding.{keys_behind, last_of_round, none_of_round}
use Rattle.pull_engine.proofs.early_sources.last_chunked.Goals as goal

pub rounds-preserved-then-kept-gt0 : goal.rounds-preserved-then-kept-gt0
rounds-preserved-then-kept-gt0 c =
    let p = passes_words c.args.from in
    let first = c.fill-count.new.block in
    let second = c.keep_members-kept.new.block in
    let kept = c.keep_members-kept.result in
    let few = c.keep_members-kept.ensures.few in
    let count = c.fill-count.ensures.count in
    let was = c.rounds.invariant.room in
    let room : length second ≡ PAIRS = search rules in
    let within : kept ≤ length second = omega (arith, few, count, was, room) in
    record {
      room = room;
      found = ap (λ (us : List ℕ). last_or (Some (get_or second (kept - 1) 0)) (filter p us)) (keys_behind c.fill-count.result c.rounds.sources c.fill-count.new.self c.fill-count.ensures.rest)
          ∙ last_of_round p c.rounds.last (keys_of c.rounds.sources) first second c.fill-count.result kept c.fill-count.ensures.filled c.keep_members-kept.ensures.kept c.if-kept-gt0.true within
          ∙ c.rounds.invariant.found;
    }

pub rounds-preserved : goal.rounds-preserved
rounds-preserved c =
    let p = passes_words c.args.from in
    let none : c.keep_members-kept.result ≡ 0 = omega (arith, c.if-kept-gt0.false) in
    record {
      room = search rules;
      found = ap (λ (us : List ℕ). last_or c.rounds.last (filter p us)) (keys_behind c.fill-count.result c.rounds.sources c.fill-count.new.self c.fill-count.ensures.rest)
          ∙ none_of_round p c.rounds.last
          (keys_of c.rounds.sources) c.fill-count.new.block c.keep_members-kept.new.block c.fill-count.result c.keep_members-kept.result c.fill-count.ensures.filled c.keep_members-kept.ensures.kept
          none
          ∙ c.rounds.invariant.found;
    }
