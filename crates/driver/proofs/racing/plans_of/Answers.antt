-- Proofs of `plans_of`, src/racing.rt.
use Rattle.std.proofs.Common.{Bor, rules}
use Rattle.std.specs.Arc.{arc_value}
use Rattle.std.specs.Global.{Global}
use Rattle.std.specs.declared.sync.Arc.{Arc}
use Rattle.std.proofs.lemmas.Iterator.{YieldsList-from_map_by, YieldsList-from_slice}
use Rattle.std.proofs.lemmas.Iterator.Consumers.{map_from_collect}
use Rattle.plans.specs.declared.plan.Plan.{Plan}
use Rattle.driver.specs.declared.compiled_plan.CompiledPlan.{CompiledPlan}
use Rattle.driver.proofs.racing.plans_of.Goals as goal

pub returns : goal.returns
returns c =
    map_from_collect c.collect.result c.collect.ensures.ran
    (YieldsList-from_map_by _ (λ (p : Bor (Arc Plan Global)). arc_value p.now) (λ (one : CompiledPlan). arc_value one.plan) (YieldsList-from_slice c.args.compiled.now cc) c.map.ensures.closure (λ x r q k. search rules))
