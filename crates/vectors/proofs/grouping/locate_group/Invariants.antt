use Rattle.std.proofs.Common.{◌≡◌, List, length}
use Rattle.vectors.specs.declared.location.Location.{Location}
use Rattle.vectors.specs.inside.Layout.{AreLocated}
use Rattle.vectors.proofs.grouping.locate_group.Given as goal

abbrev pub invariant-names : goal.invariant-names
invariant-names l = record {
  located : (start : List Location) → AreLocated start l.groups l.k 0 l.fn.locations → AreLocated start l.groups l.k l.first l.locations;
  count : length l.locations ≡ length l.fn.locations;
}
