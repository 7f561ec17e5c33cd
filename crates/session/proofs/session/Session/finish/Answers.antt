-- Proofs of `finish`, src/session.rt.
use Rattle.std.proofs.Common.{◌≡◌, Result, sym, subst}
use Rattle.std.specs.Result.{IfErr}
use Rattle.session.specs.declared.error.SessionError.{SessionError}
use Rattle.session.specs.declared.error.SessionError.TheVariants.{NoMemory}
use Rattle.session.specs.declared.step.SessionReply.{SessionReply}
use Rattle.session.specs.Standing.{Finishes}
use Rattle.session.proofs.Attempting.{told_only_memory}
use Rattle.session.proofs.Finishing.{told_finishes}
use Rattle.session.proofs.session.Session.finish.Goals as goal

pub returns-clause-finishes : goal.returns-clause-finishes
returns-clause-finishes c = λ programs w at.
    subst (λ (r : Result SessionReply SessionError). Finishes programs w c.args.job c.args.self.now r c.finish_job.new.self) (sym c.told.ensures)
    (told_finishes programs w c.args.job c.args.self.now c.finish_job.new.self c.finish_job.result at (c.finish_job.ensures programs w at))

pub returns-clause-only_memory : goal.returns-clause-only_memory
returns-clause-only_memory c = subst (λ (r : Result SessionReply SessionError). IfErr r (λ e. e ≡ NoMemory)) (sym c.told.ensures) (told_only_memory c.finish_job.result)
