use Rattle.std.proofs.Common.{◌≡◌, drop}
use Rattle.edge_fold.specs.ReducedContributions.{reduced_with}
use Rattle.edge_fold.proofs.source_numbers.reduce_each.Given as goal

-- the number so far, reduced with those of the sources that are left, is the whole
abbrev pub invariant-sources : goal.invariant-sources
invariant-sources g l = reduced_with l.reduction (g.N.SourceNumbers.number l.numbers) l.number (drop l.source-index l.sources) ≡ reduced_with l.reduction
    (g.N.SourceNumbers.number l.numbers) l.fn.first l.sources
