use Rattle.std.proofs.Common.{◌≡◌, drop}
use Rattle.edge_fold.specs.EntryNumbers.{entry_with, reduced_over}
use Rattle.edge_fold.proofs.entry_numbers.reduce_each.Given as goal

-- the number so far, reduced with those that are left, is the whole
abbrev pub invariant-entries : goal.invariant-entries
invariant-entries g l = reduced_over l.reduction (entry_with l.numbers) l.number (drop l.index (g.E.NeighbourEntries.entries l.entries)) ≡ reduced_over l.reduction (entry_with l.numbers) l.fn.first
    (g.E.NeighbourEntries.entries l.entries)
