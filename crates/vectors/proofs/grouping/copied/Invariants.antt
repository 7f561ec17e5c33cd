use Rattle.std.proofs.Common.{◌≡◌, take}
use Rattle.vectors.proofs.grouping.copied.Given as goal

abbrev pub invariant-groups : goal.invariant-groups
invariant-groups l = l.made.items ≡ take l.names-index l.groups
