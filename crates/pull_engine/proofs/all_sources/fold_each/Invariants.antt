use Rattle.std.proofs.Common.{◌≡◌, take}
use Rattle.std.specs.List.{filter}
use Rattle.std.specs.Map.{keys_of}
use Rattle.edge_apply.specs.Words.{passes_words}
use Rattle.edge_fold.specs.ReducedContributions.{reduced_with}
use Rattle.pull_engine.proofs.all_sources.fold_each.Given as goal

-- the number is that of the sources so far
abbrev pub invariant-sources : goal.invariant-sources
invariant-sources g l = l.number ≡ reduced_with l.reduction (g.N.SourceNumbers.number l.numbers) l.fn.old (filter (passes_words l.from) (take l.index (keys_of l.sources)))
