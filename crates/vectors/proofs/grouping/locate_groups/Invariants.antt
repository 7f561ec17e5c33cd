use Rattle.vectors.specs.inside.Layout.{AreLocated}
use Rattle.vectors.proofs.grouping.locate_groups.Given as goal

abbrev pub invariant-groups : goal.invariant-groups
invariant-groups l = AreLocated l.fn.locations l.groups l.k 0 l.locations
