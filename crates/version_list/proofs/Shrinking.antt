-- That graphs have no fewer vertices after more batches.
use Rattle.std.proofs.Common.{ℕ, zero, suc, ◌≤◌, List, [], ◌∷◌, take, arith}
use Rattle.tree_batch.specs.declared.batch.Entry.{Entry}
use Rattle.tree_batch.specs.Digraph.{Digraph, graph_after, graph_through}

no_fewer_than_before : (g : Digraph) (batches : List (List Entry)) → g.vertices ≤ (graph_through g batches).vertices
no_fewer_than_before g [] = omega arith
no_fewer_than_before g (batch ∷ batches) = omega (arith, no_fewer_than_before (graph_after g batch) batches)

pub no_fewer : (g : Digraph) (batches : List (List Entry)) (j k : ℕ) → j ≤ k → (graph_through g (take j batches)).vertices ≤ (graph_through g (take k batches)).vertices
no_fewer g batches zero k le = no_fewer_than_before g (take k batches)
no_fewer g batches (suc j) zero le = absurd (omega arith)
no_fewer g [] (suc j) (suc k) le = omega arith
no_fewer g (batch ∷ batches) (suc j) (suc k) le = no_fewer (graph_after g batch) batches j k (omega arith)
