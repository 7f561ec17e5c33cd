use Rattle.std.proofs.Common.{◌≡◌, ◌++◌, drop, take}
use Rattle.follow_engine.specs.Spliced.{changes_below, changes_from}
use Rattle.follow_engine.proofs.splicing.count_below.Given as goal

-- the changes that have come are below
abbrev pub invariant-changes : goal.invariant-changes
invariant-changes l = record {
  below : changes_below l.vertex l.found ≡ take l.position l.found ++ changes_below l.vertex (drop l.position l.found);
  rest : changes_from l.vertex l.found ≡ changes_from l.vertex (drop l.position l.found);
}
