use Rattle.std.proofs.Common.{◌-◌, ◌≤◌, drop, length}
use Rattle.edge_fold.proofs.Walks.{HasWalked}
use Rattle.edge_apply.specs.Words.{passes_words}
use Rattle.push_engine.proofs.Walked.{row_to}
use Rattle.push_engine.proofs.sources.fold_narrow.Given as goal

-- some neighbours are folded, and the rest is left
abbrev pub invariant-parts : goal.invariant-parts
invariant-parts l = record {
  within : l.first ≤ length l.list;
  walked : HasWalked l.input.context (row_to (passes_words l.input.to) l.source) l.list (drop l.first l.list) l.fn.scratch l.scratch;
}

abbrev pub decreases-parts : goal.decreases-parts
decreases-parts l = length l.list - l.first
