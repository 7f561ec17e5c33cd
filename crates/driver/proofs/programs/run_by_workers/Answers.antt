-- Proofs of `run_by_workers`, src/programs.rt.
use Rattle.std.specs.Arc.{arc_value}
use Rattle.std.proofs.Math.Logic.{∥∥₁_elim}
use denote.Struct.Props.{props}
use Rattle.plans.specs.PlanOf.{program_of}
use Rattle.driver.proofs.programs.run_by_workers.Goals as goal

-- the program of a compiled plan is one that the run speaks of
pub returns : goal.returns
returns g c = record {
  shows = λ compiled. ∥∥₁_elim compiled (hlevel props) (λ of. c.in_ok-run.ensures.means (program_of (arc_value c.args.order.plan.now)) of.schedule of.planned of.reducing);
  kept = c.in_ok-run.ensures.kept;
}
