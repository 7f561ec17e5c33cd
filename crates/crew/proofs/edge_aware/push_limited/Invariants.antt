use Rattle.std.proofs.Common.{◌*◌, min}
use Rattle.crew.specs.inside.Cuts.{CutsOn}
use Rattle.crew.proofs.edge_aware.push_limited.Given as goal

-- the runs so far
abbrev pub invariant-runs : goal.invariant-runs
invariant-runs g l = CutsOn l.limit (g.D.DegreeList.degrees l.degrees) 0 0 l.fn.ends.items l.reached (min (64 * l.run) l.count) l.ends.items
