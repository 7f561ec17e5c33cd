-- Beside `Outcome`: definitions that no public contract cites.
use Rattle.std.specs.Prelude.{ℕ, List}
use Rattle.plans.specs.declared.plan.Plan.{Plan}
use Rattle.plans.specs.PlanOf.{IsCompiled}
use Rattle.compiler.specs.Outcome.{IsPlanOfText}

-- the plan is that of a text's program
abbrev pub is_compiled : {text : List ℕ} {plan : Plan} → IsPlanOfText text plan → IsCompiled plan
is_compiled of = record { schedule = of.schedule; planned = of.planned; reducing = of.reducing }
