-- Calls that take a step, whose refusals are errors.
use Rattle.std.specs.Prelude.{◌≡◌, ℕ, List, None, Result, Ok, Err}
use Rattle.version_list.specs.declared.step.Step.{Step}
use Rattle.version_list.specs.declared.step.Reply.TheVariants.{Refused}
use Rattle.version_list.specs.Machine.{reply_to, state_after}
use Rattle.session.specs.declared.error.SessionError.{SessionError}
use Rattle.session.specs.declared.error.SessionError.TheVariants.{NoJob, NoMemory}
use Rattle.session.specs.declared.step.SessionReply.{SessionReply}
use Rattle.session.specs.declared.step.SessionReply.TheVariants.{Of}
use Rattle.session.specs.Refusal.{number_of}
use Rattle.session.specs.World.{ScheduledProgram, World, StepAnswer, nth_from_one, step_refused}
use Rattle.session.specs.Standing.{SessionValue, HasFinished, IsAt, Takes, after_job_steps}

-- the versions are stepped as the machine does, or refuse as it refuses, or memory runs out; and nothing else is changed
abbrev pub StepsVersions : SessionValue → Step → Result SessionReply SessionError → SessionValue → Type 0
StepsVersions old step (Ok reply) new = (reply ≡ Of (reply_to old.versions step)) × (new ≡ record old { versions = state_after old.versions step })
StepsVersions old step (Err NoMemory) new = new ≡ old
StepsVersions old step (Err e) new = (reply_to old.versions step ≡ Refused (number_of e)) × (new ≡ old)

-- a step that is answered so in a world is taken, or refused as there, or memory runs out; where it is not taken, nothing is changed
abbrev pub Attempts : List ScheduledProgram → World → StepAnswer → SessionValue → Result SessionReply SessionError → SessionValue → Type 0
Attempts programs w a old (Ok reply) new = Takes programs a reply new
Attempts programs w a old (Err NoMemory) new = new ≡ old
Attempts programs w a old (Err e) new = (a ≡ step_refused w (number_of e)) × (new ≡ old)

-- a job is finished, or there is none and nothing is changed, or memory runs out after some number of its steps
abbrev pub FinishesOrNot : List ScheduledProgram → World → (number : ℕ) → SessionValue → Result SessionReply SessionError → SessionValue → Type 0
FinishesOrNot programs w number old (Ok reply) new = HasFinished programs w number old reply new
FinishesOrNot programs w number old (Err NoMemory) new = (count : ℕ) × IsAt programs (after_job_steps programs w number count) new
FinishesOrNot programs w number old (Err NoJob) new = (nth_from_one w.jobs number ≡ None) × (new ≡ old)
FinishesOrNot programs w number old (Err e) new = ⊥

-- a refusal is reported as a reply
abbrev pub told_of : Result SessionReply SessionError → Result SessionReply SessionError
told_of (Ok reply) = Ok reply
told_of (Err NoMemory) = Err NoMemory
told_of (Err e) = Ok (Of (Refused (number_of e)))
