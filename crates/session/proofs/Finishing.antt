-- Jobs that are stepped until they have ended.
use Rattle.std.proofs.Common.{◌≡◌, ℕ, zero, suc, ◌+◌, List, Option, Some, None, Result, Ok, Err, refl, sym, ap, ◌∙◌, subst, arith}
use Rattle.std.specs.Result.{IsErrAnd}
use Rattle.algorithm_meaning.specs.declared.outcome.End.{End}
use Rattle.apply_options.specs.ScheduleTree.{ScheduleTree}
use Rattle.plans.specs.Machine.{Configuration, At, Ended}
use Rattle.plans.specs.Plan.{plan_of}
use Rattle.plans.specs.PlanOf.{IsPlan}
use Rattle.plans.specs.Reducing.{AppliesReduce}
use Rattle.runner.specs.declared.job.Stand.TheVariants as stand
use Rattle.runner.specs.Job.{stand_of}
use Rattle.runner.specs.Resting.{JobValue, HasStepped}
use Rattle.typed_tree.specs.ProgramTree.{ProgramTree}
use Rattle.version_list.specs.declared.step.Reply.TheVariants.{Refused}
use Rattle.session.specs.declared.error.SessionError.{SessionError}
use Rattle.session.specs.declared.error.SessionError.TheVariants.{VertexRange, BadChunkSize, NotKept, NotHeld, HistoryFull, NoProgram, NoJob, NoMemory}
use Rattle.session.specs.declared.step.SessionStep.TheVariants.{JobStep}
use Rattle.session.specs.declared.step.SessionReply.{SessionReply}
use Rattle.session.specs.declared.step.SessionReply.TheVariants.{Of, Stands}
use Rattle.session.specs.World.{ScheduledProgram, WorldJob, World, job_index, one_more, after_its_step, nth_from_one, with_numbered, job_step, step_answer}
use Rattle.session.specs.Standing.{SessionValue, StandsAt, IsAt, Takes, TellsEnd, HasFinished, Finishes, after_job_steps}
use Rattle.session.specs.Laws.{GoesOnAlone}
use Rattle.session.specs.inside.Attempts.{FinishesOrNot, told_of}
use Rattle.session.proofs.Alone.{goes_on_twice, stays_there, steps_once}
use Rattle.session.proofs.Attempting.{numbered_partner, numbered_none, pairwise_with, stand_resting, stands_later}
use Rattle.session.proofs.Numbered.{numbered_same, with_numbered_again, with_numbered_same}

-- a job after so many steps of its own
abbrev after_steps : (n : ℕ) → WorldJob → WorldJob
after_steps zero job = job
after_steps (suc n) job = after_steps n (after_its_step job)

goes_on : (n : ℕ) (job : WorldJob) → GoesOnAlone job n (after_steps n job)
goes_on zero job = stays_there job
goes_on (suc n) job =
    let next : 1 + n ≡ suc n = omega arith in
    subst (λ (k : ℕ). GoesOnAlone job k (after_steps (suc n) job)) next
    (goes_on_twice job (after_its_step job) (after_steps (suc n) job) 1 n (steps_once job (job_index job) refl) (goes_on n (after_its_step job)))

-- the world in which the job of a number is this one
abbrev with_job : World → (number : ℕ) → WorldJob → World
with_job w number job = record w { jobs = with_numbered w.jobs number job }

one_step : (programs : List ScheduledProgram) (w : World) (number : ℕ) (job : WorldJob) → nth_from_one w.jobs number ≡ Some job
    → (step_answer programs w (JobStep number)).world ≡ with_job w number (after_its_step job)
one_step programs w number job is = ap (λ (o : Option WorldJob). (job_step w number o).world) is

-- so many steps of a job change that job alone
world_after_steps : (programs : List ScheduledProgram) (w : World) (number n : ℕ) (job : WorldJob) → nth_from_one w.jobs number ≡ Some job
    → after_job_steps programs w number n ≡ with_job w number (after_steps n job)
world_after_steps programs w number zero job is = ap (λ (js : List WorldJob). record w { jobs = js }) (sym (with_numbered_same w.jobs number job is))
world_after_steps programs w number (suc n) job is =
    let next = with_job w number (after_its_step job) in
    ap (λ (v : World). after_job_steps programs v number n) (one_step programs w number job is)
    ∙ world_after_steps programs next number n (after_its_step job) (numbered_same w.jobs number job (after_its_step job) is)
    ∙ ap (λ (js : List WorldJob). record w { jobs = js }) (with_numbered_again w.jobs number (after_its_step job) (after_steps n (after_its_step job)))

-- the new value of a job that was stepped some number of times
abbrev pub AreStepsOf : JobValue → JobValue → Type 0
AreStepsOf old new = (p : ProgramTree) (s : ScheduleTree) → IsPlan old.plan p s → AppliesReduce p (plan_of p s) → HasStepped p s old new

-- a session whose job was stepped some number of times is where the world is after as many steps of it
record HasGoneOn (programs : List ScheduledProgram) (w : World) (number : ℕ) (k : JobValue) (new : SessionValue) : Type 0 where
  count : ℕ
  job : WorldJob
  there : nth_from_one w.jobs number ≡ Some job
  stands : StandsAt k (after_steps count job)
  at : IsAt programs (with_job w number (after_steps count job)) new

has_gone_on : (programs : List ScheduledProgram) (w : World) (old new : SessionValue) (number : ℕ) (j k : JobValue) → IsAt programs w old → nth_from_one old.jobs number ≡ Some j → AreStepsOf j k
    → new ≡ record old { jobs = with_numbered old.jobs number k } → HasGoneOn programs w number k new
has_gone_on programs w old new number j k at found steps after =
    let partner = numbered_partner StandsAt old.jobs w.jobs number j at.jobs found in
    let job = partner.partner in
    let gone = steps job.program.tree job.program.schedule partner.related.plan.planned partner.related.plan.reducing in
    let later = after_steps gone.count job in
    let stands = stands_later gone.count j k job later partner.related (goes_on gone.count job) gone.is in
    record {
      count = gone.count;
      job = job;
      there = partner.is_there;
      stands = stands;
      at = subst (IsAt programs (with_job w number later)) (sym after) (record {
        plans = at.plans;
        versions = at.versions;
        jobs = pairwise_with StandsAt old.jobs w.jobs number k later at.jobs stands;
      });
    }

-- where memory runs out
pub stops_there : (programs : List ScheduledProgram) (w : World) (old new : SessionValue) (number : ℕ) (j k : JobValue) → IsAt programs w old → nth_from_one old.jobs number ≡ Some j → AreStepsOf j k
    → new ≡ record old { jobs = with_numbered old.jobs number k } → (count : ℕ) × IsAt programs (after_job_steps programs w number count) new
stops_there programs w old new number j k at found steps after =
    let gone = has_gone_on programs w old new number j k at found steps after in
    (gone.count, subst (λ (v : World). IsAt programs v new) (sym (world_after_steps programs w number gone.count gone.job gone.there)) gone.at)

-- a job that has ended stays
ended_stays : (c : Configuration) (end : End) (job : WorldJob) → stand_of c ≡ stand.Ended end → one_more c job ≡ job
ended_stays (At index loops s) end job is = let bad : stand.Going ≡ stand.Ended end = is in cc
ended_stays (Ended s e) end job is = refl

-- the step of a job that has ended leaves the world as it was
ended_takes : (programs : List ScheduledProgram) (w : World) (number : ℕ) (job : WorldJob) (end : End) (new : SessionValue) → nth_from_one w.jobs number ≡ Some job
    → stand_of (job_index job) ≡ stand.Ended end → IsAt programs w new → Takes programs (step_answer programs w (JobStep number)) (Stands (stand.Ended end)) new
ended_takes programs w number job end new is ended at =
    let stays : after_its_step job ≡ job = ended_stays (job_index job) end job ended in
    let same : w ≡ with_job w number (after_its_step job) =
    ap (λ (js : List WorldJob). record w { jobs = js }) (sym (with_numbered_same w.jobs number job is)) ∙ ap (with_job w number) (sym stays) in
    subst (λ (o : Option WorldJob). Takes programs (job_step w number o) (Stands (stand.Ended end)) new) (sym is) (record {
      reply_is = ap Stands (sym ended ∙ ap (λ (k : WorldJob). stand_of (job_index k)) (sym stays));
      stands = subst (λ (v : World). IsAt programs v new) same at;
    })

-- a job that was stepped until it has ended
pub finishes_there : (programs : List ScheduledProgram) (w : World) (old new : SessionValue) (number : ℕ) (j k : JobValue) (end : End) → IsAt programs w old → nth_from_one old.jobs number ≡ Some j
    → AreStepsOf j k → stand_of k.stands ≡ stand.Ended end → new ≡ record old { jobs = with_numbered old.jobs number k } → HasFinished programs w number old (Stands (stand.Ended end)) new
finishes_there programs w old new number j k end at found steps ended after =
    let gone = has_gone_on programs w old new number j k at found steps after in
    let later = after_steps gone.count gone.job in
    let w_later = with_job w number later in
    let here : stand_of (job_index later) ≡ stand.Ended end =
    sym (ap (λ (v : JobValue). stand_of v.stands) gone.stands.is ∙ stand_resting k.plan.instructions.items (job_index later)) ∙ ended in
    record {
      count = gone.count;
      takes = subst (λ (v : World). Takes programs (step_answer programs v (JobStep number)) (Stands (stand.Ended end)) new)
          (sym (world_after_steps programs w number gone.count gone.job gone.there))
          (ended_takes programs w_later number later end new (numbered_same w.jobs number gone.job later gone.there) here gone.at);
      tells = subst (λ (o : Option WorldJob). TellsEnd o old (Stands (stand.Ended end)) new) (sym gone.there) (end, refl);
    }

-- there is no job to finish
pub none_to_finish : (programs : List ScheduledProgram) (w : World) (old new : SessionValue) (number : ℕ) → IsAt programs w old → nth_from_one old.jobs number ≡ None → new ≡ old
    → (nth_from_one w.jobs number ≡ None) × (new ≡ old)
none_to_finish programs w old new number at none same = (numbered_none StandsAt old.jobs w.jobs number at.jobs none, same)

refused_finish : (programs : List ScheduledProgram) (w : World) (old new : SessionValue) (number : ℕ) → IsAt programs w old → nth_from_one w.jobs number ≡ None → new ≡ old
    → HasFinished programs w number old (Of (Refused 413)) new
refused_finish programs w old new number at none same = record {
  count = 0;
  takes = subst (λ (o : Option WorldJob). Takes programs (job_step w number o) (Of (Refused 413)) new) (sym none)
      (record { reply_is = refl; stands = subst (IsAt programs w) (sym same) at });
  tells = subst (λ (o : Option WorldJob). TellsEnd o old (Of (Refused 413)) new) (sym none) (refl, same);
}

-- what is told of a job that is finished, or not
pub told_finishes : (programs : List ScheduledProgram) (w : World) (number : ℕ) (old new : SessionValue) (result : Result SessionReply SessionError) → IsAt programs w old
    → FinishesOrNot programs w number old result new → Finishes programs w number old (told_of result) new
told_finishes programs w number old new (Ok reply) at is = is
told_finishes programs w number old new (Err NoMemory) at is = is
told_finishes programs w number old new (Err NoJob) at is = refused_finish programs w old new number at is.0 is.1
told_finishes programs w number old new (Err VertexRange) at is = absurd is
told_finishes programs w number old new (Err BadChunkSize) at is = absurd is
told_finishes programs w number old new (Err NotKept) at is = absurd is
told_finishes programs w number old new (Err NotHeld) at is = absurd is
told_finishes programs w number old new (Err HistoryFull) at is = absurd is
told_finishes programs w number old new (Err NoProgram) at is = absurd is

-- memory runs out after some number of steps of a job
pub stops_finishing : (programs : List ScheduledProgram) (w : World) (number : ℕ) (old new : SessionValue) (result : Result SessionReply SessionError) → IsErrAnd result (λ e. e ≡ NoMemory)
    → (count : ℕ) × IsAt programs (after_job_steps programs w number count) new → FinishesOrNot programs w number old result new
stops_finishing programs w number old new (Ok reply) is stops = absurd is
stops_finishing programs w number old new (Err e) is stops = subst (λ (f : SessionError). FinishesOrNot programs w number old (Err f) new) (sym is) stops
