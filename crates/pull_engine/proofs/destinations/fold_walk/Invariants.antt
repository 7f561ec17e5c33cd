use Rattle.std.proofs.Common.{length}
use Rattle.edge_fold.proofs.Walks.{HasWalked}
use Rattle.edge_apply.specs.Words.{passes_words}
use Rattle.pull_engine.proofs.ColumnFolds.{column_from}
use Rattle.pull_engine.proofs.destinations.fold_walk.Given as goal

-- some neighbours are folded, and the rest is left
abbrev pub invariant-rounds : goal.invariant-rounds
invariant-rounds g l = HasWalked l.input.context (column_from (passes_words l.input.from) l.destination) (g.W.NeighbourWalk.coming l.fn.walk) (g.W.NeighbourWalk.coming l.walk) l.fn.scratch l.scratch

abbrev pub decreases-rounds : goal.decreases-rounds
decreases-rounds g l = length (g.W.NeighbourWalk.coming l.walk)
