-- Proofs of `race_known`, src/racing.rt.
use Rattle.std.proofs.Common.{length}
use Rattle.races.proofs.Seats.{writer_apart}
use Rattle.races.proofs.racing.race_known.Goals as goal

pub race_on-requires-clause-writer : goal.race_on-requires-clause-writer
race_on-requires-clause-writer g c κs within = (writer_apart (length c.args.programs.plans.now) c.in_ok-graph.readers.items c.in_ok-graph.writer c.in_ok-graph.ensures.3).1

pub race_on-requires-clause-readers : goal.race_on-requires-clause-readers
race_on-requires-clause-readers g c κs within = (writer_apart (length c.args.programs.plans.now) c.in_ok-graph.readers.items c.in_ok-graph.writer c.in_ok-graph.ensures.3).0
