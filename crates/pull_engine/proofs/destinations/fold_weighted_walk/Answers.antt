-- Proofs of `fold_weighted_walk`, src/destinations.rt.
use Rattle.std.proofs.Common.{◌++◌, ap, refl, take, arith}
use Rattle.edge_fold.specs.Contributions.{column, weighted_entries}
use Rattle.edge_fold.proofs.Walks.{folded_along, parts_of, walk_begun, walk_done, walk_more}
use Rattle.edge_apply.specs.Words.{passes_words}
use Rattle.pull_engine.proofs.ColumnFolds.{column_from, column_in_row, kept_entries, none_left}
use Rattle.pull_engine.proofs.destinations.fold_weighted_walk.Goals as goal

pub rounds-preserved : goal.rounds-preserved
rounds-preserved g c =
    let a = c.args in
    let from = passes_words a.input.from in
    let d = a.destination in
    let filled = c.fill_weighted-count in
    let n = filled.result in
    let left = g.W.NeighbourWalk.coming c.rounds.walk in
    let part = take n left in
    let rest = g.W.NeighbourWalk.coming filled.new.self in
    let kept = c.keep_members_weighted-kept in
    let then = c.fold_into_weighted.new.self in
    let lent = weighted_entries (take kept.result kept.new.block) (take kept.result kept.new.weights) in
    let same = kept_entries from left filled.new.keys filled.new.weights n lent filled.ensures.keys filled.ensures.weights kept.ensures.kept in
    walk_more a.input.context (column_from from d) (g.W.NeighbourWalk.coming a.walk) left part rest a.scratch.now c.rounds.scratch then
    (column_in_row from d) (parts_of n left part rest refl filled.ensures.rest)
    (λ m steps es are has. folded_along a.input.context m steps (es ++ column d lent) (es ++ column_from from d part) then (ap (λ ks. es ++ column d ks) same)
    (c.in_ok-fold_into_weighted.ensures m steps es are has))
    c.rounds.invariant

pub returns : goal.returns
returns g c =
    let a = c.args in
    let none = none_left (g.W.NeighbourWalk.coming c.rounds.walk) (omega (arith, c.rounds-test.false, c.len.ensures)) in
    walk_done a.input.context (column_from (passes_words a.input.from) a.destination) (g.W.NeighbourWalk.coming a.walk)
    (g.W.NeighbourWalk.coming c.rounds.walk) a.scratch.now c.rounds.scratch none c.rounds.invariant

pub rounds-init : goal.rounds-init
rounds-init g c =
    let a = c.args in
    let all = g.W.NeighbourWalk.coming a.walk in
    walk_begun a.input.context (column_from (passes_words a.input.from) a.destination) all a.scratch.now refl
