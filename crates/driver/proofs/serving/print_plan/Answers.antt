-- Proofs of `print_plan`, src/serving.rt.
use Rattle.std.proofs.Common.{◌≡◌, ◌++◌, ◌∙◌, List, ℕ, ap, inr, refl, subst}
use Rattle.devices.specs.Devices.{TakesPart}
use Rattle.plans.specs.PlanOf.{program_of}
use Rattle.lowering.specs.Text.{text_of}
use Rattle.driver.proofs.serving.print_plan.Goals as goal

pub returns-in-Ok : goal.returns-in-Ok
returns-in-Ok g c =
    let held = c.in_ok-plan.ensures in
    let is : c.deref.result.now ≡ text_of (program_of c.in_ok-plan.plan) held.planned.schedule =
    c.deref.ensures.value ∙ c.in_ok-text.ensures (program_of c.in_ok-plan.plan) held.planned.schedule held.planned.written in
    record {
      plan = c.in_ok-plan.plan;
      planned = held;
      bytes_written = c.in-Ok.ensures.ok ∙ ap (λ (t : List ℕ). g.W.Drain.bytes_written c.args.out.now ++ t) is;
      quiet = c.in-Ok.ensures.no_failure;
      fault = refl;
    }

pub returns : goal.returns
returns g c =
    let held = c.in_ok-plan.ensures in
    let is : c.deref.result.now ≡ text_of (program_of c.in_ok-plan.plan) held.planned.schedule =
    c.deref.ensures.value ∙ c.in_ok-text.ensures (program_of c.in_ok-plan.plan) held.planned.schedule held.planned.written in
    inr (record {
      plan = c.in_ok-plan.plan;
      planned = held;
      part = subst (λ (t : List ℕ). TakesPart (g.W.Drain.bytes_written c.args.out.now) (g.W.Drain.bytes_written c.write_all.new.writer) t) is c.in-Err.ensures.err.0;
      failed = c.in-Err.ensures.err.1;
      outcome = refl;
    })
