-- Proofs of `plans_do_what_programs_do`, src/laws.rt.
use Rattle.plans.proofs.Whole.{runs_as}
use Rattle.plans.proofs.laws.plans_do_what_programs_do.Goals as goal

pub returns : goal.returns
returns c = runs_as
