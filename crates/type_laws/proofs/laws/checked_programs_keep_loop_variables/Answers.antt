-- Proofs of `checked_programs_keep_loop_variables`, src/laws.rt.
use Rattle.std.proofs.Common.{subst}
use Rattle.type_laws.specs.LoopVariables.{KeepsLoopVariables}
use Rattle.type_laws.proofs.LoopPrograms.{keeps_loop_variables}
use Rattle.type_laws.proofs.laws.checked_programs_keep_loop_variables.Goals as goal

pub returns : goal.returns
returns c = λ source length program checks. subst (λ p. KeepsLoopVariables p) checks.1 (keeps_loop_variables source length checks.0)
