-- Proofs of `edges_into`, src/in_degrees.rt.
use Rattle.std.proofs.Common.{ℕ, ◌∙◌}
use Rattle.flat_snapshot.specs.Neighbours.{sources_of}
use Rattle.edge_apply.proofs.BlockTotals.{block_total, no_block_total}
use Rattle.pull_engine.proofs.in_degrees.edges_into.Goals as goal

pub returns-in-Some : goal.returns-in-Some
returns-in-Some c = c.edge_count.ensures.count ∙ block_total (λ (v : ℕ). sources_of v c.args.flat.now.edges) c.args.block c.in-Some.found.now c.in-Some.ensures c.edge_count.ensures.block

pub returns-in-None : goal.returns-in-None
returns-in-None c = no_block_total (λ (v : ℕ). sources_of v c.args.flat.now.edges) c.args.block c.in-None.ensures
