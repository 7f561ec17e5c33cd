-- Proofs of `instructions_have_their_values`, src/brackets.rt.
use Rattle.plan_laws.proofs.Values.{values_are}
use Rattle.plan_laws.proofs.brackets.instructions_have_their_values.Goals as goal

pub returns : goal.returns
returns c = values_are
