-- Proofs of `labels_have_the_values_of_calls`, src/laws.rt.
use Rattle.schedule.proofs.Values.{accepted_has_values}
use Rattle.schedule.proofs.laws.labels_have_the_values_of_calls.Goals as goal

pub returns : goal.returns
returns c = accepted_has_values
