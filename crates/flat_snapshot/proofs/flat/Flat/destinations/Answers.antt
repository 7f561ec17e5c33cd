-- Proofs of `destinations`, src/flat.rt.
use Rattle.std.proofs.Common.{◌^◌, arith}
use Rattle.ascending_lists.proofs.MapOrder.{rises_room}
use Rattle.flat_snapshot.specs.inside.Lists.{degrees_of}
use Rattle.flat_snapshot.proofs.flat.Flat.destinations.Goals as goal

pub returns-clause-bounded : goal.returns-clause-bounded
returns-clause-bounded c =
    let a = c.self.inside in
    rw c.degrees.ensures (omega (arith, rises_room 0 (2 ^ 32) (degrees_of a.incoming) c.self.invariant.into.map))
