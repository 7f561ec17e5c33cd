use Rattle.std.proofs.Common.{◌≡◌, ◌+◌, ◌≤◌, drop, length}
use Rattle.version_list.specs.Machine.{commits_of}
use Rattle.version_list.proofs.since.start_of_last.Given as goal

-- the batches from here on, and how many are left
abbrev pub invariant-entries : goal.invariant-entries
invariant-entries l = (l.start ≤ length l.history) × (length (commits_of (drop l.start l.history)) + l.left ≡ l.batches)

abbrev pub decreases-entries : goal.decreases-entries
decreases-entries l = l.start
