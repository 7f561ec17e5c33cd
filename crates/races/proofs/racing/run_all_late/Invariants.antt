use Rattle.std.proofs.Common.{map}
use Rattle.std.specs.List.{All}
use Rattle.races.specs.Race.{MayRun}
use Rattle.races.specs.inside.Racing.{RanEarly}
use Rattle.races.proofs.Runs.{IsRunning}
use Rattle.snapshot_runs.specs.Runs.{plan_of_runs}
use Rattle.races.proofs.racing.run_all_late.Given as goal

-- the programs before those that are left ran twice, by as many workers as a crew may have
abbrev pub invariant-loop-one : goal.invariant-loop-one
invariant-loop-one g l =
    (goal.iterator-loop-one g).can_next l.one-iterator × (goal.iterator-loop-one g).is_finite l.one-iterator
    × All (RanEarly g.J.Naming.vertices l.fn.turns l.fn.workers) l.one-iterator.rest.items
    × IsRunning g.J.Naming.vertices g.J.Naming.room l.fn.turns l.fn.told (map (λ r. plan_of_runs r.runs) l.fn.ran.items) (map (λ r. plan_of_runs r.runs) l.one-iterator.rest.items) l.all.items
    × MayRun l.fn.workers l.all.items
