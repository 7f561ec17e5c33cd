use Rattle.std.proofs.Common.{◌≡◌, take}
use Rattle.edge_apply.specs.inside.Merged.{changes_in_parts}
use Rattle.edge_apply.proofs.appended.changes_of_all.Given as goal

-- the changes of the first parts are there
abbrev pub invariant-parts : goal.invariant-parts
invariant-parts l = l.changes.items ≡ changes_in_parts l.vector (take l.part-index l.parts)
