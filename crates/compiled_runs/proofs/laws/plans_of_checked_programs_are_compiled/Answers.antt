-- Proofs of `plans_of_checked_programs_are_compiled`, src/laws.rt.
use Rattle.plans.specs.PlanOf.{program_of}
use Rattle.compiler.proofs.Reduced.{applies_reduce}
use Rattle.compiled_runs.proofs.laws.plans_of_checked_programs_are_compiled.Goals as goal

pub returns : goal.returns
returns c = λ source length p schedule checked planned. record { schedule = schedule; planned = planned; reducing = applies_reduce source length (program_of p) schedule checked }
