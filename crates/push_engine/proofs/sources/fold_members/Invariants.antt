use Rattle.edge_fold.proofs.Walks.{HasWalked}
use Rattle.push_engine.specs.inside.Rows.{rows_to}
use Rattle.edge_apply.specs.Words.{passes_words}
use Rattle.push_engine.proofs.sources.fold_members.Given as goal

-- some members are folded, and the rest is left
abbrev pub invariant-sources : goal.invariant-sources
invariant-sources l = HasWalked l.input.context (rows_to (passes_words l.input.to) l.input.flat.now.edges) l.set.members l.source-iterator l.fn.scratch l.scratch
