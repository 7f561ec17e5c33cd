use Rattle.std.proofs.Common.{◌≡◌, ◌++◌, drop, take}
use Rattle.follow_engine.specs.Spliced.{merged}
use Rattle.follow_engine.specs.inside.Runs.{unmarked}
use Rattle.follow_engine.proofs.splicing.run_length.Given as goal

-- the changes that have come are in front of all others
abbrev pub invariant-changes : goal.invariant-changes
invariant-changes l =
    merged l.left (unmarked l.marks l.recorded) ≡ take l.position l.recorded ++ merged l.left (unmarked l.marks (drop l.position l.recorded))
