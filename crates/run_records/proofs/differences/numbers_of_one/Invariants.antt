use Rattle.std.proofs.Common.{◌≤◌, ◌+◌, ◌-◌, length}
use Rattle.run_records.proofs.SideBySide.{AreAlikeSoFar}
use Rattle.run_records.proofs.differences.numbers_of_one.Given as goal

-- the first numbers of both are the same, but for those that were found
abbrev pub invariant-numbers : goal.invariant-numbers
invariant-numbers l = record {
  left : l.left ≤ length l.first;
  right : l.right ≤ length l.second;
  alike : AreAlikeSoFar l.first l.second l.found.items l.left l.right;
}

abbrev pub decreases-numbers : goal.decreases-numbers
decreases-numbers l = (length l.first - l.left) + (length l.second - l.right)
