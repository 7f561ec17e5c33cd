-- Proofs of `fold_words`, src/sources.rt.
use Rattle.std.proofs.Common.{◌*◌, ◌≤◌, [], arith}
use Rattle.std.specs.List.{filter, range_with_len}
use Rattle.edge_apply.specs.Words.{passes_words}
use Rattle.edge_apply.proofs.Listed.{rises_filtered}
use Rattle.vertex_sets.proofs.Ascending.{rises_range}
use Rattle.push_engine.proofs.BlockRows.{block_folded, blocks_agree, none_folded}
use Rattle.push_engine.proofs.Walked.{folded_edges}
use Rattle.push_engine.proofs.sources.fold_words.Goals as goal

pub rounds-init : goal.rounds-init
rounds-init c = none_folded c.args.input.context c.args.scratch.now

pub rounds-preserved : goal.rounds-preserved
rounds-preserved c =
    let a = c.args in
    block_folded a.input.context (passes_words a.input.to)
    (passes_words a.words) a.input.flat.now.edges c.rounds.number a.scratch.now c.rounds.scratch c.fold_block.new.scratch c.in_ok-fold_block.ensures c.rounds.invariant

pub returns : goal.returns
returns c m steps are has =
    let a = c.args in
    let g = a.input.flat.now in
    let from = passes_words a.words in
    let n = 64 * c.rounds.number in
    let count = c.vertices.ensures.count in
    let all : g.vertices ≤ n = omega (arith, count, c.rounds-test.false) in
    folded_edges a.input.context m steps from (passes_words a.input.to) (filter from (range_with_len 0 n)) g.edges c.rounds.scratch
    (rises_filtered from 0 (range_with_len 0 n) (rises_range 0 n)) (blocks_agree g from n c.vertices.ensures.graph all) (c.rounds.invariant m steps [] are has)
