use Rattle.std.proofs.Common.{◌≡◌, length}
use Rattle.kernels.specs.declared.columns.TheConstants.{PAIRS}
use Rattle.edge_apply.specs.Words.{passes_words}
use Rattle.edge_fold.specs.EntryNumbers.{reduced_over}
use Rattle.pull_engine.specs.Columns.{passing}
use Rattle.pull_engine.proofs.source_folds.fold_walk.Given as goal

-- the number so far, reduced with those of the sources that are left, is the whole
abbrev pub invariant-rounds : goal.invariant-rounds
invariant-rounds g l = record {
  room : length l.block ≡ PAIRS;
  folded : reduced_over l.reduction (λ s _. g.N.SourceNumbers.number l.numbers s) l.number (passing (passes_words l.from) (g.W.NeighbourWalk.coming l.sources))
      ≡ reduced_over l.reduction (λ s _. g.N.SourceNumbers.number l.numbers s) l.fn.old (passing (passes_words l.from) (g.W.NeighbourWalk.coming l.fn.sources));
}

abbrev pub decreases-rounds : goal.decreases-rounds
decreases-rounds g l = length (g.W.NeighbourWalk.coming l.sources)
