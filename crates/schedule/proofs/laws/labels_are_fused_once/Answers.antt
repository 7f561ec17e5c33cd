-- Proofs of `labels_are_fused_once`, src/laws.rt.
use Rattle.schedule.proofs.FusedOnce.{accepted_fuses_in_pairs}
use Rattle.schedule.proofs.laws.labels_are_fused_once.Goals as goal

pub returns : goal.returns
returns c = accepted_fuses_in_pairs
