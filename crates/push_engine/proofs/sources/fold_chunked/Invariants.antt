use Rattle.std.proofs.Common.{length}
use Rattle.edge_fold.proofs.Walks.{HasWalked}
use Rattle.edge_apply.specs.Words.{passes_words}
use Rattle.push_engine.proofs.Walked.{row_to}
use Rattle.push_engine.proofs.sources.fold_chunked.Given as goal

-- some neighbours are folded, and the rest is left
abbrev pub invariant-rounds : goal.invariant-rounds
invariant-rounds l = HasWalked l.input.context (row_to (passes_words l.input.to) l.source) l.fn.set.entries l.walk l.fn.scratch l.scratch

abbrev pub decreases-rounds : goal.decreases-rounds
decreases-rounds l = length l.walk
