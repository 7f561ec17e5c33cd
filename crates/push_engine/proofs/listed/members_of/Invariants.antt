use Rattle.std.proofs.Common.{◌≡◌, ◌++◌}
use Rattle.push_engine.proofs.listed.members_of.Given as goal

-- some members are found, and the rest is left
abbrev pub invariant-members : goal.invariant-members
invariant-members l = l.found.items ++ l.member-iterator ≡ l.set.members
