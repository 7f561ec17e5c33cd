-- Proofs of `loop_counters_are_variables`, src/laws.rt.
use Rattle.std.proofs.Common.{subst}
use Rattle.type_laws.specs.LoopVariables.{KeepsLoopVariables}
use Rattle.type_laws.proofs.LoopPrograms.{keeps_loop_variables}
use Rattle.plan_laws.proofs.LoopLaw.{counters_are_variables}
use Rattle.plan_laws.proofs.laws.loop_counters_are_variables.Goals as goal

pub returns : goal.returns
returns c = record {
  checked = λ source length program schedule checks.
      counters_are_variables program schedule (subst (λ p. KeepsLoopVariables p) checks.1 (keeps_loop_variables source length checks.0));
  keeping = counters_are_variables;
}
