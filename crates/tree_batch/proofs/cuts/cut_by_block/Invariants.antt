use Rattle.std.proofs.Common.{length}
use Rattle.tree_batch.specs.inside.BlockCuts.{AreCutSoFar}
use Rattle.tree_batch.proofs.cuts.cut_by_block.Given as goal

abbrev pub invariant-loop-first : goal.invariant-loop-first
invariant-loop-first l = AreCutSoFar l.updates l.rest l.changes.items

abbrev pub decreases-loop-first : goal.decreases-loop-first
decreases-loop-first l = length l.rest
