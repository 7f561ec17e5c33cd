-- Steps that may change places.
use Rattle.std.proofs.Common.{◌≡◌, ◌≢◌, ℕ, ◌+◌, false, List, [], ◌∷◌, Option, Some, None, refl, sym, ap, ◌∙◌, subst}
use Rattle.std.proofs.lemmas.Bool.{eqb-false, ne_eqb}
use Rattle.flat_snapshot.specs.Digraph.{Digraph}
use Rattle.version_list.specs.declared.step.Step.{Step}
use Rattle.version_list.specs.declared.step.Step.TheVariants as versions
use Rattle.version_list.specs.Machine.{ticket_graph}
use Rattle.session.specs.declared.step.SessionStep.{SessionStep}
use Rattle.session.specs.declared.step.SessionStep.TheVariants.{Commit, Acquire, Release, Start, JobStep}
use Rattle.session.specs.declared.step.SessionReply.TheVariants.{Job}
use Rattle.session.specs.World.{ScheduledProgram, WorldJob, World, StepAnswer, after_its_step, nth_from_one, on_versions, start, job_step, step_answer}
use Rattle.session.specs.Laws.{is_step_of, MayChangePlaces}
use Rattle.session.proofs.Numbered.{numbered_other, numbered_append, with_numbered_append, with_numbered_twice, with_numbered_length}

-- the answers of two steps taken in either order
record ChangePlaces (one one_later other other_later : StepAnswer) : Type 0 where
  worlds : other_later.world ≡ one_later.world
  one_reply : one_later.reply ≡ one.reply
  other_reply : other_later.reply ≡ other.reply

-- a step of a job, and one of the versions
beside_versions : (w : World) (number : ℕ) (found : Option WorldJob) (step : Step)
    → ChangePlaces (job_step w number found) (job_step (on_versions w step).world number found) (on_versions w step) (on_versions (job_step w number found).world step)
beside_versions w number None step = record { worlds = refl; one_reply = refl; other_reply = refl }
beside_versions w number (Some job) step = record { worlds = refl; one_reply = refl; other_reply = refl }

-- a step of a job that is there, and a start
beside_start : (w : World) (number turns : ℕ) (job : WorldJob) (program : Option ScheduledProgram) (graph : Option Digraph) → nth_from_one w.jobs number ≡ Some job
    → ChangePlaces (job_step w number (Some job)) (job_step (start w turns program graph).world number (nth_from_one (start w turns program graph).world.jobs number))
    (start w turns program graph) (start (job_step w number (Some job)).world turns program graph)
beside_start w number turns job None graph is = record {
  worlds = ap (λ (o : Option WorldJob). (job_step w number o).world) (sym is);
  one_reply = ap (λ (o : Option WorldJob). (job_step w number o).reply) is;
  other_reply = refl;
}
beside_start w number turns job (Some program) None is = record {
  worlds = ap (λ (o : Option WorldJob). (job_step w number o).world) (sym is);
  one_reply = ap (λ (o : Option WorldJob). (job_step w number o).reply) is;
  other_reply = refl;
}
beside_start w number turns job (Some program) (Some graph) is =
    let new : WorldJob = record { program = program; graph = graph; turns = turns; count = 0 } in
    let started = (start w turns (Some program) (Some graph)).world in
    let there : nth_from_one started.jobs number ≡ Some job = numbered_append w.jobs (new ∷ []) number job is in
    record {
      worlds =
          ap (λ (jobs : List WorldJob). record w { jobs = jobs }) (sym (with_numbered_append w.jobs (new ∷ []) number job (after_its_step job) is))
          ∙ ap (λ (o : Option WorldJob). (job_step started number o).world) (sym there);
      one_reply = ap (λ (o : Option WorldJob). (job_step started number o).reply) there;
      other_reply = ap (λ (n : ℕ). Job (n + 1)) (with_numbered_length w.jobs number (after_its_step job));
    }

-- steps of two jobs, of which one is there
beside_job : (w : World) (number other : ℕ) (job : WorldJob) (found : Option WorldJob) → nth_from_one w.jobs number ≡ Some job → nth_from_one w.jobs other ≡ found → number ≢ other
    → ChangePlaces (job_step w number (Some job)) (job_step (job_step w other found).world number (nth_from_one (job_step w other found).world.jobs number))
    (job_step w other found) (job_step (job_step w number (Some job)).world other (nth_from_one (job_step w number (Some job)).world.jobs other))
beside_job w number other job None is found apart =
    let after = (job_step w number (Some job)).world in
    let none : nth_from_one after.jobs other ≡ None = numbered_other w.jobs number other (after_its_step job) apart ∙ found in
    record {
      worlds = ap (λ (o : Option WorldJob). (job_step after other o).world) none ∙ ap (λ (o : Option WorldJob). (job_step w number o).world) (sym is);
      one_reply = ap (λ (o : Option WorldJob). (job_step w number o).reply) is;
      other_reply = ap (λ (o : Option WorldJob). (job_step after other o).reply) none;
    }
beside_job w number other job (Some too) is found apart =
    let after = (job_step w number (Some job)).world in
    let after_other = (job_step w other (Some too)).world in
    let there : nth_from_one after.jobs other ≡ Some too = numbered_other w.jobs number other (after_its_step job) apart ∙ found in
    let here : nth_from_one after_other.jobs number ≡ Some job = numbered_other w.jobs other number (after_its_step too) (λ same. apart (sym same)) ∙ is in
    record {
      worlds =
          ap (λ (o : Option WorldJob). (job_step after other o).world) there
          ∙ ap (λ (jobs : List WorldJob). record w { jobs = jobs }) (with_numbered_twice w.jobs number other (after_its_step job) (after_its_step too) apart)
          ∙ ap (λ (o : Option WorldJob). (job_step after_other number o).world) (sym here);
      one_reply = ap (λ (o : Option WorldJob). (job_step after_other number o).reply) here;
      other_reply = ap (λ (o : Option WorldJob). (job_step after other o).reply) there;
    }

changes : (programs : List ScheduledProgram) (w : World) (one other : SessionStep)
    → ChangePlaces (step_answer programs w one) (step_answer programs (step_answer programs w other).world one) (step_answer programs w other)
    (step_answer programs (step_answer programs w one).world other)
    → MayChangePlaces programs w one other
changes programs w one other change = record { worlds = change.worlds; one_reply = change.one_reply; other_reply = change.other_reply }

-- the step of a job that is there, and any step that is not that job's
pub job_steps_change_places : (programs : List ScheduledProgram) (w : World) (number : ℕ) (job : WorldJob) (other : SessionStep) → nth_from_one w.jobs number ≡ Some job
    → is_step_of number other ≡ false
    → MayChangePlaces programs w (JobStep number) other
job_steps_change_places programs w number job (Commit batch) is apart = changes programs w (JobStep number) (Commit batch)
    (beside_versions w number (nth_from_one w.jobs number) (versions.Commit batch))
job_steps_change_places programs w number job (Acquire which) is apart = changes programs w (JobStep number) (Acquire which)
    (beside_versions w number (nth_from_one w.jobs number) (versions.Acquire which))
job_steps_change_places programs w number job (Release ticket) is apart = changes programs w (JobStep number) (Release ticket)
    (beside_versions w number (nth_from_one w.jobs number) (versions.Release ticket))
job_steps_change_places programs w number job (Start program ticket turns) is apart =
    let p = nth_from_one programs program in
    let g = ticket_graph w.versions ticket in
    changes programs w (JobStep number) (Start program ticket turns)
    (subst (λ (o : Option WorldJob). ChangePlaces (job_step w number o) (job_step (start w turns p g).world number (nth_from_one (start w turns p g).world.jobs number)) (start w turns p g)
    (start (job_step w number o).world turns p (ticket_graph (job_step w number o).world.versions ticket)))
    (sym is) (beside_start w number turns job p g is))
job_steps_change_places programs w number job (JobStep stepped) is apart =
    let ne : number ≢ stepped = λ same. eqb-false stepped number apart (sym same) in
    changes programs w (JobStep number) (JobStep stepped)
    (subst (λ (o : Option WorldJob). ChangePlaces (job_step w number o) (job_step (job_step w stepped (nth_from_one w.jobs stepped)).world number
    (nth_from_one (job_step w stepped (nth_from_one w.jobs stepped)).world.jobs number))
    (job_step w stepped (nth_from_one w.jobs stepped)) (job_step (job_step w number o).world stepped (nth_from_one (job_step w number o).world.jobs stepped)))
    (sym is) (beside_job w number stepped job (nth_from_one w.jobs stepped) is refl ne))

-- steps of two jobs that are not there
beside_none : (programs : List ScheduledProgram) (w : World) (number other : ℕ) → nth_from_one w.jobs number ≡ None → nth_from_one w.jobs other ≡ None
    → MayChangePlaces programs w (JobStep number) (JobStep other)
beside_none programs w number other none too =
    changes programs w (JobStep number) (JobStep other)
    (subst (λ (o : Option WorldJob). ChangePlaces (job_step w number o) (job_step (job_step w other (nth_from_one w.jobs other)).world number
    (nth_from_one (job_step w other (nth_from_one w.jobs other)).world.jobs number))
    (job_step w other (nth_from_one w.jobs other)) (job_step (job_step w number o).world other (nth_from_one (job_step w number o).world.jobs other)))
    (sym none)
    (subst (λ (o : Option WorldJob). ChangePlaces (job_step w number None) (job_step (job_step w other o).world number (nth_from_one (job_step w other o).world.jobs number))
    (job_step w other o) (job_step w other (nth_from_one w.jobs other))) (sym too)
    (record {
      worlds = ap (λ (o : Option WorldJob). (job_step w other o).world) too ∙ ap (λ (o : Option WorldJob). (job_step w number o).world) (sym none);
      one_reply = ap (λ (o : Option WorldJob). (job_step w number o).reply) none;
      other_reply = ap (λ (o : Option WorldJob). (job_step w other o).reply) too;
    })))

other_way : (programs : List ScheduledProgram) (w : World) (one other : SessionStep) → MayChangePlaces programs w one other → MayChangePlaces programs w other one
other_way programs w one other change = record { worlds = sym change.worlds; one_reply = change.other_reply; other_reply = change.one_reply }

by_what_is_there : (programs : List ScheduledProgram) (w : World) (number other : ℕ) (one two : Option WorldJob) → nth_from_one w.jobs number ≡ one → nth_from_one w.jobs other ≡ two → number ≢ other
    → MayChangePlaces programs w (JobStep number) (JobStep other)
by_what_is_there programs w number other (Some job) two is too apart = job_steps_change_places programs w number job (JobStep other) is (ne_eqb other number (λ same. apart (sym same)))
by_what_is_there programs w number other None (Some job) is too apart = other_way programs w (JobStep other) (JobStep number)
    (job_steps_change_places programs w other job (JobStep number) too (ne_eqb number other apart))
by_what_is_there programs w number other None None is too apart = beside_none programs w number other is too

-- the steps of two jobs, whether they are there or not
pub steps_of_two_jobs : (programs : List ScheduledProgram) (w : World) (number other : ℕ) → number ≢ other → MayChangePlaces programs w (JobStep number) (JobStep other)
steps_of_two_jobs programs w number other apart = by_what_is_there programs w number other (nth_from_one w.jobs number) (nth_from_one w.jobs other) refl refl apart
