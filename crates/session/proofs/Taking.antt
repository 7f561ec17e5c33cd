-- Steps of jobs and starts, in the words of the session's lists.
use Rattle.std.proofs.Common.{◌≡◌, ℕ, zero, suc, ◌+◌, ◌<◌, ◌≤◌, List, [], ◌∷◌, ◌++◌, Option, Some, None, map, length, get_or, slice_get, refl, sym, ap, ◌∙◌, subst, arith}
use Rattle.std.specs.Prelude.{slice_set}
use Rattle.std.specs.Option.{option_map}
use Rattle.std.proofs.Math.Seq.{map-set_same}
use Rattle.std.proofs.lemmas.List.{length-map, map-set}
use Rattle.std.proofs.lemmas.Option.{slice_get_past, slice_get_read, slice_get-map}
use Rattle.flat_snapshot.specs.Digraph.{Digraph}
use Rattle.plans.specs.declared.plan.Plan.{Plan}
use Rattle.runner.specs.declared.job.Stand.{Stand}
use Rattle.runner.specs.Job.{stand_of}
use Rattle.runner.specs.Resting.{JobValue}
use Rattle.version_list.specs.Machine.{State, version_graph, ticket_version, ticket_graph}
use Rattle.session.specs.declared.started_job.StartedJob.{StartedJob}
use Rattle.session.specs.declared.step.SessionReply.TheVariants.{Job, Stands}
use Rattle.session.specs.World.{ScheduledProgram, World, nth_from_one, with_numbered, step_refused, start, job_step}
use Rattle.session.specs.Standing.{SessionValue, IsAt, Takes}
use Rattle.session.proofs.Attempting.{IsNewJob, IsNextOf, no_program, no_ticket, starts, no_job, steps_job}

-- a number is one more than its index
numbered_at : {A : Type 0} (xs : List A) (number index : ℕ) → number ≡ index + 1 → nth_from_one xs number ≡ slice_get xs index
numbered_at xs number index is = let next : number ≡ suc index = omega (arith, is) in ap (nth_from_one xs) next

with_numbered_at : {A : Type 0} (xs : List A) (number index : ℕ) (x : A) → number ≡ index + 1 → with_numbered xs number x ≡ slice_set xs index x
with_numbered_at xs number index x is = let next : number ≡ suc index = omega (arith, is) in ap (λ (n : ℕ). with_numbered xs n x) next

numbered_map : {A B : Type 0} (f : A → B) (xs : List A) (number : ℕ) → nth_from_one (map f xs) number ≡ option_map f (nth_from_one xs number)
numbered_map f xs zero = refl
numbered_map f xs (suc index) = slice_get-map f xs index

-- what a number finds among the values of a list, if the list itself is lent
pub mapped_found : {A B : Type 0} (f : A → B) (values : List B) (items lent : List A) (number : ℕ) (found : Option A) → values ≡ map f items → lent ≡ items → found ≡ nth_from_one lent number
    → nth_from_one values number ≡ option_map f found
mapped_found {B = B} f values items lent number found are lies is =
    ap (λ (ys : List B). nth_from_one ys number) are ∙ numbered_map f items number
    ∙ ap (option_map f) (ap (λ xs. nth_from_one xs number) (sym lies) ∙ sym is)

pub starts_no_program : {A : Type 0} (plan_in : A → Plan) (shared lent : List A) (programs : List ScheduledProgram) (w : World) (old : SessionValue) (program turns : ℕ) (graph : Option Digraph)
    → IsAt programs w old
    → old.plans ≡ map plan_in shared → lent ≡ shared → None ≡ nth_from_one lent program → start w turns (nth_from_one programs program) graph ≡ step_refused w 412
starts_no_program plan_in shared lent programs w old program turns graph at are lies is =
    no_program programs w old program turns graph at (mapped_found plan_in old.plans shared lent program None are lies is)

-- the graph of a ticket, in the world
graph_there : (programs : List ScheduledProgram) (w : World) (old : SessionValue) (s : State) (ticket : ℕ) (version : Option ℕ) → IsAt programs w old → old.versions ≡ s
    → ticket_version s.open_tickets ticket ≡ version
    → ticket_graph w.versions ticket ≡ option_map (version_graph s) version
graph_there programs w old s ticket version at here is =
    ap (λ (v : State). ticket_graph v ticket) (sym at.versions ∙ here) ∙ ap (option_map (version_graph s)) is

pub starts_no_ticket : {A : Type 0} (plan_in : A → Plan) (shared lent : List A) (programs : List ScheduledProgram) (w : World) (old : SessionValue) (s : State) (program ticket turns : ℕ) (plan : A)
    → IsAt programs w old
    → old.plans ≡ map plan_in shared → lent ≡ shared → Some plan ≡ nth_from_one lent program → old.versions ≡ s → ticket_version s.open_tickets ticket ≡ None
    → start w turns (nth_from_one programs program) (ticket_graph w.versions ticket) ≡ step_refused w 122
starts_no_ticket plan_in shared lent programs w old s program ticket turns plan at are lies is here none =
    no_ticket programs w old program turns (plan_in plan) (ticket_graph w.versions ticket) at (mapped_found plan_in old.plans shared lent program (Some plan) are lies is)
    (graph_there programs w old s ticket None at here none)

-- a new job of a plan on a graph is one of an equal plan on an equal graph
new_of : (p q : Plan) (g h : Digraph) (turns : ℕ) (j : JobValue) → p ≡ q → g ≡ h → IsNewJob p g turns j → IsNewJob q h turns j
new_of p q g h turns j plans graphs new = subst (λ (r : Plan). IsNewJob r h turns j) plans (subst (λ (d : Digraph). IsNewJob p d turns j) graphs new)

pub starts_there : {A : Type 0} (plan_in : A → Plan) (shared lent : List A) (programs : List ScheduledProgram) (w : World) (old new : SessionValue) (s : State) (program ticket version turns : ℕ)
    (plan : A) (graph flat : Digraph) (own : Plan) (j : JobValue)
    (number : ℕ) → IsAt programs w old → old.plans ≡ map plan_in shared → lent ≡ shared → Some plan ≡ nth_from_one lent program → old.versions ≡ s → ticket_version s.open_tickets ticket ≡ Some version
    → graph ≡ version_graph s version
    → own ≡ plan_in plan → flat ≡ graph → IsNewJob own flat turns j → new ≡ record old { jobs = old.jobs ++ j ∷ [] } → number ≡ length old.jobs + 1
    → Takes programs (start w turns (nth_from_one programs program) (ticket_graph w.versions ticket)) (Job number) new
starts_there plan_in shared lent programs w old new s program ticket version turns plan graph flat own j number at are lies is here held graph_is own_is flat_is new_is after count =
    subst (λ (n : ℕ). Takes programs (start w turns (nth_from_one programs program) (ticket_graph w.versions ticket)) (Job n) new) (sym count)
    (starts programs w old new program turns (plan_in plan) graph (ticket_graph w.versions ticket) j at (mapped_found plan_in old.plans shared lent program (Some plan) are lies is)
    (graph_there programs w old s ticket (Some version) at here held ∙ ap Some (sym graph_is)) (new_of own (plan_in plan) flat graph turns j own_is flat_is new_is) after)

-- the jobs of a session, without where they come from
abbrev pub jobs_of : List StartedJob → List JobValue
jobs_of started = map (λ (x : StartedJob). x.job) started

job_found : (started : List StartedJob) (index : ℕ) (x : StartedJob) → index < length started → ((d : StartedJob) → x ≡ get_or started index d) → slice_get (jobs_of started) index ≡ Some x.job
job_found started index x within there =
    slice_get-map (λ (y : StartedJob). y.job) started index ∙ ap (option_map (λ (y : StartedJob). y.job)) (slice_get_read started (length started) index x refl within (there x))

pub job_numbered : (old : SessionValue) (started : List StartedJob) (number index : ℕ) (x : StartedJob) → old.jobs ≡ jobs_of started → number ≡ index + 1
    → index < length started → ((d : StartedJob) → x ≡ get_or started index d) → nth_from_one old.jobs number ≡ Some x.job
job_numbered old started number index x are is within there =
    ap (λ (js : List JobValue). nth_from_one js number) are ∙ numbered_at (jobs_of started) number index is ∙ job_found started index x within there

pub none_numbered : (old : SessionValue) (started : List StartedJob) (number index : ℕ) → old.jobs ≡ jobs_of started → number ≡ index + 1 → length started ≤ index
    → nth_from_one old.jobs number ≡ None
none_numbered old started number index are is past =
    let past_jobs : length (jobs_of started) ≤ index = omega (arith, past, length-map started (λ (x : StartedJob). x.job)) in
    ap (λ (js : List JobValue). nth_from_one js number) are ∙ numbered_at (jobs_of started) number index is ∙ slice_get_past (jobs_of started) index past_jobs

-- the session with another job at an index
pub with_job_there : (old new : SessionValue) (started : List StartedJob) (number index : ℕ) (x : StartedJob) → old.jobs ≡ jobs_of started → number ≡ index + 1
    → new ≡ record old { jobs = jobs_of (slice_set started index x) } → new ≡ record old { jobs = with_numbered old.jobs number x.job }
with_job_there old new started number index x are is after =
    let put : jobs_of (slice_set started index x) ≡ with_numbered old.jobs number x.job =
    map-set (λ (y : StartedJob). y.job) started index x
    ∙ sym (ap (λ (js : List JobValue). with_numbered js number x.job) are ∙ with_numbered_at (jobs_of started) number index x.job is) in
    after ∙ ap (λ (js : List JobValue). record old { jobs = js }) put

pub no_job_there : (programs : List ScheduledProgram) (w : World) (old : SessionValue) (started : List StartedJob) (number index : ℕ) → IsAt programs w old → old.jobs ≡ jobs_of started
    → number ≡ index + 1 → length started ≤ index
    → job_step w number (nth_from_one w.jobs number) ≡ step_refused w 413
no_job_there programs w old started number index at are is past = no_job programs w old number at (none_numbered old started number index are is past)

pub steps_job_there : (programs : List ScheduledProgram) (w : World) (old new : SessionValue) (started : List StartedJob) (number index : ℕ) (x y : StartedJob) (stand : Stand) → IsAt programs w old
    → old.jobs ≡ jobs_of started → number ≡ index + 1
    → index < length started → ((d : StartedJob) → x ≡ get_or started index d) → IsNextOf x.job y.job → stand ≡ stand_of y.job.stands
    → new ≡ record old { jobs = jobs_of (slice_set started index y) }
    → Takes programs (job_step w number (nth_from_one w.jobs number)) (Stands stand) new
steps_job_there programs w old new started number index x y stand at are is within there next stands after =
    subst (λ (st : Stand). Takes programs (job_step w number (nth_from_one w.jobs number)) (Stands st) new) (sym stands)
    (steps_job programs w old new number x.job y.job at (job_numbered old started number index x are is within there) next (with_job_there old new started number index y are is after))

-- a job that is not stepped leaves the session as it was
pub unstepped_there : (old new : SessionValue) (started : List StartedJob) (index : ℕ) (x y : StartedJob) → old.jobs ≡ jobs_of started → ((d : StartedJob) → x ≡ get_or started index d)
    → y.job ≡ x.job → new ≡ record old { jobs = jobs_of (slice_set started index y) } → new ≡ old
unstepped_there old new started index x y are there same after =
    let put : jobs_of (slice_set started index y) ≡ jobs_of started =
    map-set_same (λ (z : StartedJob). z.job) started index y x (same ∙ ap (λ (z : StartedJob). z.job) (there x)) in
    after ∙ ap (λ (js : List JobValue). record old { jobs = js }) (put ∙ sym are)
