-- Proofs of `edges_ascend`, src/laws.rt.
use Rattle.std.proofs.Common.{◌^◌, arith}
use Rattle.tree_batch.specs.Edge.{vertices_after, weight_after}
use Rattle.tree_batch.proofs.Rising.{same_edges}
use Rattle.tree_batch.proofs.AllEdges.{rises_all, few_vertices}
use Rattle.tree_batch.proofs.Deciding.{count_after}
use Rattle.tree_batch.proofs.laws.edges_ascend.Goals as goal

pub returns-clause-ascending : goal.returns-clause-ascending
returns-clause-ascending c g batch ok fit =
    let n = vertices_after g.vertices batch in
    rises_all (weight_after g.edges batch) n (omega (arith, few_vertices n (count_after g.vertices batch ok.count fit)))

pub returns-clause-only : goal.returns-clause-only
returns-clause-only c xs ys h k same = same_edges 0 0 (2 ^ 64) (2 ^ 64) xs ys h k same
