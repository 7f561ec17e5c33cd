use Rattle.std.proofs.Common.{◌≡◌, ◌++◌}
use Rattle.run_records.proofs.differences.listed.Given as goal

-- those in the list, and those that are left, are all
abbrev pub invariant-members : goal.invariant-members
invariant-members l = l.list.items ++ l.member-iterator ≡ l.set.members
