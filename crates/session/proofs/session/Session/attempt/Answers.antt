-- Proofs of `attempt`, src/session.rt.
use Rattle.std.proofs.Common.{refl, sym, subst}
use Rattle.version_list.specs.declared.step.Step.TheVariants as versions
use Rattle.session.specs.declared.step.SessionStep.{SessionStep}
use Rattle.session.specs.World.{step_answer}
use Rattle.session.specs.inside.Attempts.{Attempts}
use Rattle.session.proofs.Attempting.{versions_attempt}
use Rattle.session.proofs.Versions.{steps_err}
use Rattle.session.proofs.session.Session.attempt.Goals as goal

pub returns-in-Commit-clause-attempts : goal.returns-in-Commit-clause-attempts
returns-in-Commit-clause-attempts c = λ programs w at.
    subst (λ (st : SessionStep). Attempts programs w (step_answer programs w st) c.args.self.now c.commit.result c.commit.new.self) (sym c.in-Commit.is)
    (versions_attempt programs w (versions.Commit c.in-Commit.batch) c.args.self.now c.commit.new.self c.commit.result at (λ n. refl) c.commit.ensures)

pub returns-in-Commit-clause-err : goal.returns-in-Commit-clause-err
returns-in-Commit-clause-err c = steps_err c.args.self.now c.commit.new.self (versions.Commit c.in-Commit.batch) c.commit.result c.commit.ensures

pub returns-in-Acquire-clause-attempts : goal.returns-in-Acquire-clause-attempts
returns-in-Acquire-clause-attempts c = λ programs w at.
    subst (λ (st : SessionStep). Attempts programs w (step_answer programs w st) c.args.self.now c.acquire.result c.acquire.new.self) (sym c.in-Acquire.is)
    (versions_attempt programs w (versions.Acquire c.in-Acquire.which) c.args.self.now c.acquire.new.self c.acquire.result at (λ n. refl) c.acquire.ensures)

pub returns-in-Acquire-clause-err : goal.returns-in-Acquire-clause-err
returns-in-Acquire-clause-err c = steps_err c.args.self.now c.acquire.new.self (versions.Acquire c.in-Acquire.which) c.acquire.result c.acquire.ensures

pub returns-in-Release-clause-attempts : goal.returns-in-Release-clause-attempts
returns-in-Release-clause-attempts c = λ programs w at.
    subst (λ (st : SessionStep). Attempts programs w (step_answer programs w st) c.args.self.now c.release.result c.release.new.self) (sym c.in-Release.is)
    (versions_attempt programs w (versions.Release c.in-Release.ticket) c.args.self.now c.release.new.self c.release.result at (λ n. refl) c.release.ensures)

pub returns-in-Release-clause-err : goal.returns-in-Release-clause-err
returns-in-Release-clause-err c = steps_err c.args.self.now c.release.new.self (versions.Release c.in-Release.ticket) c.release.result c.release.ensures

pub returns-in-Start-clause-attempts : goal.returns-in-Start-clause-attempts
returns-in-Start-clause-attempts c = λ programs w at.
    subst (λ (st : SessionStep). Attempts programs w (step_answer programs w st) c.args.self.now c.start.result c.start.new.self) (sym c.in-Start.is) (c.start.ensures.attempts programs w at)

pub returns-in-JobStep-clause-attempts : goal.returns-in-JobStep-clause-attempts
returns-in-JobStep-clause-attempts c = λ programs w at.
    subst (λ (st : SessionStep). Attempts programs w (step_answer programs w st) c.args.self.now c.step_job.result c.step_job.new.self) (sym c.in-JobStep.is)
    (c.step_job.ensures.attempts programs w at)
