-- Proofs of `labels_without_calls_have_the_defaults`, src/laws.rt.
use Rattle.schedule.proofs.Defaults.{accepted_has_defaults}
use Rattle.schedule.proofs.laws.labels_without_calls_have_the_defaults.Goals as goal

pub returns : goal.returns
returns c = accepted_has_defaults
