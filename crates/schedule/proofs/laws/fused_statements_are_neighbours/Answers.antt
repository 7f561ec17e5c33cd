-- Proofs of `fused_statements_are_neighbours`, src/laws.rt.
use Rattle.schedule.proofs.FusedPairs.{accepted_fuses_well}
use Rattle.schedule.proofs.laws.fused_statements_are_neighbours.Goals as goal

pub returns : goal.returns
returns c = accepted_fuses_well
