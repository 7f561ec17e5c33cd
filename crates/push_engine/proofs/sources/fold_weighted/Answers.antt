-- Proofs of `fold_weighted`, src/sources.rt.
use Rattle.std.proofs.Common.{◌++◌, take, refl, ap, arith}
use Rattle.edge_fold.specs.Contributions.{weighted_entries, row}
use Rattle.edge_fold.proofs.Walks.{folded_along, parts_of, walk_begun, walk_done, walk_more}
use Rattle.edge_apply.specs.Words.{passes_words}
use Rattle.push_engine.proofs.Blocks.{entries_kept, none_left}
use Rattle.push_engine.proofs.Walked.{row_in_row, row_to}
use Rattle.push_engine.proofs.sources.fold_weighted.Goals as goal

pub rounds-preserved : goal.rounds-preserved
rounds-preserved g c =
    let a = c.args in
    let to = passes_words a.input.to in
    let u = a.source in
    let n = c.fill_weighted-count.result in
    let coming = g.W.NeighbourWalk.coming c.rounds.walk in
    let part = take n coming in
    let rest = g.W.NeighbourWalk.coming c.fill_weighted-count.new.self in
    let read = c.fill_weighted-count.ensures in
    let k = c.keep_members_weighted-kept.result in
    let kept = weighted_entries (take k c.keep_members_weighted-kept.new.block) (take k c.keep_members_weighted-kept.new.weights) in
    let same = entries_kept to n coming c.fill_weighted-count.new.keys c.fill_weighted-count.new.weights kept read.keys read.weights c.keep_members_weighted-kept.ensures.kept in
    let then = c.fold_weighted.new.self in
    walk_more a.input.context (row_to to u) (g.W.NeighbourWalk.coming a.walk) coming part rest a.scratch.now c.rounds.scratch then
    (row_in_row to u) (parts_of n coming part rest refl read.rest)
    (λ m steps es are has. folded_along a.input.context m steps (es ++ row u kept) (es ++ row_to to u part) then (ap (λ fs. es ++ row u fs) same) (c.in_ok-fold_weighted.ensures m steps es are has))
    c.rounds.invariant

pub returns : goal.returns
returns g c =
    let a = c.args in
    let none = none_left (g.W.NeighbourWalk.coming c.rounds.walk) (omega (arith, c.rounds-test.false, c.len.ensures)) in
    walk_done a.input.context (row_to (passes_words a.input.to) a.source) (g.W.NeighbourWalk.coming a.walk)
    (g.W.NeighbourWalk.coming c.rounds.walk) a.scratch.now c.rounds.scratch none c.rounds.invariant

pub rounds-init : goal.rounds-init
rounds-init g c =
    let a = c.args in
    let all = g.W.NeighbourWalk.coming a.walk in
    walk_begun a.input.context (row_to (passes_words a.input.to) a.source) all a.scratch.now refl
