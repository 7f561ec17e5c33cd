use Rattle.std.proofs.Common.{◌≡◌, drop, replicate, false}
use Rattle.plain_run.specs.inside.Flags.{marked}
use Rattle.plain_run.proofs.edge_apply.flags_of_members.Given as goal

-- what is left to do from here comes to what was to be done
abbrev pub invariant-members : goal.invariant-members
invariant-members l = marked (drop l.member-index l.members) l.flags.items ≡ marked l.members (replicate l.vertices false)
