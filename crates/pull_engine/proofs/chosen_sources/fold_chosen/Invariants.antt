use Rattle.std.proofs.Common.{◌≡◌, ◌-◌, ◌≤◌, length, drop}
use Rattle.kernels.specs.declared.columns.TheConstants.{PAIRS}
use Rattle.edge_apply.specs.Words.{is_set}
use Rattle.edge_fold.specs.EntryNumbers.{entry_with, reduced_over}
use Rattle.pull_engine.specs.Columns.{passing}
use Rattle.pull_engine.proofs.chosen_sources.fold_chosen.Given as goal

-- the number so far, reduced with those of the sources that are left, is the whole
abbrev pub invariant-rounds : goal.invariant-rounds
invariant-rounds l = record {
  room : length l.block ≡ PAIRS;
  inside : l.low ≤ length l.list;
  folded : reduced_over l.reduction (entry_with l.numbers) l.number (passing (is_set l.words) (drop l.low l.list))
      ≡ reduced_over l.reduction (entry_with l.numbers) l.fn.old (passing (is_set l.words) l.list);
}

abbrev pub decreases-rounds : goal.decreases-rounds
decreases-rounds l = length l.list - l.low
