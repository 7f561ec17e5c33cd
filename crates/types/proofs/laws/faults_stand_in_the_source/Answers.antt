-- Proofs of `faults_stand_in_the_source`, src/laws.rt.
use Rattle.types.proofs.SourceOffsets.{call_offsets, fault_offsets}
use Rattle.types.proofs.laws.faults_stand_in_the_source.Goals as goal

pub returns : goal.returns
returns c = record { faults = fault_offsets; calls = call_offsets }
