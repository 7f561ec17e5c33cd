-- Proofs of `edges_from`, src/source_degrees.rt.
use Rattle.std.proofs.Common.{ℕ, ◌∙◌, arith}
use Rattle.flat_snapshot.specs.Neighbours.{destinations_of}
use Rattle.edge_apply.proofs.BlockTotals.{block_total, no_block_total}
use Rattle.push_engine.proofs.SourceTotals.{block_few}
use Rattle.push_engine.proofs.source_degrees.edges_from.Goals as goal

pub returns-in-Some-clause-total : goal.returns-in-Some-clause-total
returns-in-Some-clause-total c =
    c.edge_count.ensures.count ∙ block_total (λ (u : ℕ). destinations_of u c.args.flat.now.edges) c.args.block c.in-Some.found.now c.in-Some.ensures c.edge_count.ensures.block

pub returns-in-Some-clause-few : goal.returns-in-Some-clause-few
returns-in-Some-clause-few c =
    let few = block_few c.in-Some.found.now c.edge_count.ensures.block in
    let count = c.edge_count.ensures.count in
    omega (arith, few, count)

pub returns-in-None-clause-total : goal.returns-in-None-clause-total
returns-in-None-clause-total c = no_block_total (λ (u : ℕ). destinations_of u c.args.flat.now.edges) c.args.block c.in-None.ensures
