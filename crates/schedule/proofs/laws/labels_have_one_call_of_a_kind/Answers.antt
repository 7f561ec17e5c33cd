-- Proofs of `labels_have_one_call_of_a_kind`, src/laws.rt.
use Rattle.schedule.proofs.Defaults.{accepted_are_once}
use Rattle.schedule.proofs.laws.labels_have_one_call_of_a_kind.Goals as goal

pub returns : goal.returns
returns c = accepted_are_once
