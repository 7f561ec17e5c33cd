-- Proofs of `fold_walk`, src/destinations.rt.
use Rattle.std.proofs.Common.{refl, take, arith}
use Rattle.edge_fold.proofs.Walks.{parts_of, walk_begun, walk_done, walk_more}
use Rattle.edge_apply.specs.Words.{passes_words}
use Rattle.pull_engine.specs.Columns.{passing}
use Rattle.pull_engine.proofs.ColumnFolds.{column_from, column_in_row, kept_keys, none_left}
use Rattle.pull_engine.proofs.destinations.fold_walk.Goals as goal

pub rounds-preserved : goal.rounds-preserved
rounds-preserved g c =
    let a = c.args in
    let from = passes_words a.input.from in
    let d = a.destination in
    let n = c.fill-count.result in
    let left = g.W.NeighbourWalk.coming c.rounds.walk in
    let part = take n left in
    let rest = g.W.NeighbourWalk.coming c.fill-count.new.self in
    let then = c.fold_into.new.self in
    let keys = kept_keys from left c.fill-count.new.block c.keep_members-kept.new.block n c.keep_members-kept.result c.fill-count.ensures.filled c.keep_members-kept.ensures.kept in
    walk_more a.input.context (column_from from d) (g.W.NeighbourWalk.coming a.walk) left part rest a.scratch.now c.rounds.scratch then
    (column_in_row from d) (parts_of n left part rest refl c.fill-count.ensures.rest)
    (λ m steps es are has. c.in_ok-fold_into.ensures m steps es (passing from part) keys are has)
    c.rounds.invariant

pub returns : goal.returns
returns g c =
    let a = c.args in
    let none = none_left (g.W.NeighbourWalk.coming c.rounds.walk) (omega (arith, c.rounds-test.false, c.len.ensures)) in
    walk_done a.input.context (column_from (passes_words a.input.from) a.destination) (g.W.NeighbourWalk.coming a.walk)
    (g.W.NeighbourWalk.coming c.rounds.walk) a.scratch.now c.rounds.scratch none c.rounds.invariant

pub rounds-init : goal.rounds-init
rounds-init g c =
    let a = c.args in
    let all = g.W.NeighbourWalk.coming a.walk in
    walk_begun a.input.context (column_from (passes_words a.input.from) a.destination) all a.scratch.now refl
