-- Proofs of `step`, src/session.rt.
use Rattle.std.proofs.Common.{◌≡◌, List, Result, sym, subst}
use Rattle.std.specs.Result.{IfOk, IfErr, OnErr}
use Rattle.session.specs.declared.error.SessionError.{SessionError}
use Rattle.session.specs.declared.error.SessionError.TheVariants.{NoMemory}
use Rattle.session.specs.declared.step.SessionReply.{SessionReply}
use Rattle.session.specs.World.{ScheduledProgram, World, step_answer}
use Rattle.session.specs.Standing.{IsAt, Takes}
use Rattle.session.proofs.Attempting.{told_takes, told_err, told_only_memory}
use Rattle.session.proofs.session.Session.step.Goals as goal

pub returns-clause-takes : goal.returns-clause-takes
returns-clause-takes c =
    subst (λ (r : Result SessionReply SessionError). IfOk r (λ reply. (programs : List ScheduledProgram) (w : World) → IsAt programs w c.args.self.now
    → Takes programs (step_answer programs w c.args.step) reply c.attempt.new.self))
    (sym c.told.ensures) (told_takes c.args.step c.args.self.now c.attempt.new.self c.attempt.result c.attempt.ensures.attempts)

pub returns-clause-err : goal.returns-clause-err
returns-clause-err c =
    subst (λ (r : Result SessionReply SessionError). OnErr r (c.attempt.new.self ≡ c.args.self.now)) (sym c.told.ensures) (told_err _ c.attempt.result c.attempt.ensures.err)

pub returns-clause-only_memory : goal.returns-clause-only_memory
returns-clause-only_memory c = subst (λ (r : Result SessionReply SessionError). IfErr r (λ e. e ≡ NoMemory)) (sym c.told.ensures) (told_only_memory c.attempt.result)
