-- Proofs of `compiled_plans_have_their_programs`, src/laws.rt.
use Rattle.session.proofs.OwnRuns.{have_programs}
use Rattle.session.proofs.laws.compiled_plans_have_their_programs.Goals as goal

pub returns : goal.returns
returns c = have_programs
