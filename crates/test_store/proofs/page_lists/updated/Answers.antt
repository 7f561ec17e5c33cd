-- Proofs of `updated`, src/page_lists.rt.
use Rattle.std.proofs.Common.{ℤ, List, [], ◌∷◌, arith}
use Rattle.edge_updates.specs.declared.edge_update.EdgeUpdate.{EdgeUpdate}
use Rattle.edge_updates.specs.Weighted.{weighted}
use Rattle.pages.specs.Updates.{NeighboursAscend}
use Rattle.test_store.proofs.page_lists.updated.Goals as goal

one_ascends : (u : EdgeUpdate) (ws : List ℤ) → NeighboursAscend 0 (weighted (u ∷ []) ws)
one_ascends u [] = (omega arith, tt)
one_ascends u (w ∷ ws) = (omega arith, tt)

pub merge-requires : goal.merge-requires
merge-requires c = rw c.new-2.ensures (one_ascends c.new.result c.args.weights.now)
