-- Proofs of `new`, src/degrees.rt.
use Rattle.std.proofs.Common.{ap}
use Rattle.flat_snapshot.specs.inside.Lists.{degrees_of}
use Rattle.flat_snapshot.proofs.Walks.{whole_from}
use Rattle.flat_snapshot.proofs.degrees.Degrees.new.Goals as goal

pub returns : goal.returns
returns c = ap degrees_of (whole_from c.args.neighbours.now)
