use Rattle.edge_updates.proofs.Transposing.{AreTransposedSoFar}
use Rattle.edge_updates.proofs.converse.transpose.Given as goal

abbrev pub invariant-loop-update : goal.invariant-loop-update
invariant-loop-update g l = AreTransposedSoFar g.T.Update.pair_of l.fn.updates.items l.update-items l.update-index
