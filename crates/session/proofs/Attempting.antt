-- A session that stands where a world stands takes a step as the world does.
use Rattle.std.proofs.Common.{◌≡◌, ℕ, zero, suc, ◌+◌, List, [], ◌∷◌, ◌++◌, Option, Some, None, Result, Ok, Err, IfOk, OnErr, slice_get, length, refl, sym, ap, ◌∙◌, subst}
use Rattle.std.specs.Prelude.{slice_set}
use Rattle.std.specs.Result.{IfErr, IsErrAnd}
use Rattle.algorithm_meaning.specs.Meaning.{initial_state}
use Rattle.algorithm_meaning.specs.State.{StateValue}
use Rattle.algorithm_meaning.specs.declared.state.LoopCounter.{LoopCounter}
use Rattle.apply_options.specs.ScheduleTree.{ScheduleTree}
use Rattle.flat_snapshot.specs.Digraph.{Digraph}
use Rattle.plans.specs.declared.instruction.Instruction.{Instruction}
use Rattle.plans.specs.declared.plan.Plan.{Plan}
use Rattle.plans.specs.Operation.{ArePairwise}
use Rattle.plans.specs.Machine.{Configuration, At, Ended, first_configuration, step, steps}
use Rattle.plans.specs.Plan.{plan_of}
use Rattle.plans.specs.PlanOf.{IsPlan}
use Rattle.plans.specs.Reducing.{AppliesReduce}
use Rattle.plans.proofs.Pairwise.{pairwise_snoc}
use Rattle.run_state.specs.State.{graph_value}
use Rattle.runner.specs.Job.{stand_of}
use Rattle.runner.specs.Resting.{JobValue, job_value, kept_at, resting}
use Rattle.runner.proofs.Partners.{HasPartner, partner_at, none_at}
use Rattle.runner.proofs.Resting.{steps_resting}
use Rattle.typed_tree.specs.ProgramTree.{ProgramTree}
use Rattle.version_list.specs.declared.step.Step.{Step}
use Rattle.version_list.specs.declared.step.Reply.{Reply}
use Rattle.version_list.specs.declared.step.Reply.TheVariants.{Refused}
use Rattle.version_list.specs.Machine.{State, changed, reply_to, state_after}
use Rattle.session.specs.declared.error.SessionError.{SessionError}
use Rattle.session.specs.declared.error.SessionError.TheVariants.{VertexRange, BadChunkSize, NotKept, NotHeld, HistoryFull, NoProgram, NoJob, NoMemory}
use Rattle.session.specs.declared.step.SessionReply.{SessionReply}
use Rattle.session.specs.declared.step.SessionReply.TheVariants.{Of, Job, Stands}
use Rattle.session.specs.declared.step.SessionStep.{SessionStep}
use Rattle.session.specs.World.{ScheduledProgram, WorldJob, World, StepAnswer, index_after, job_index, after_its_step, nth_from_one, with_numbered, step_refused, on_versions, start, job_step}
use Rattle.session.specs.World.{step_answer}
use Rattle.session.specs.Standing.{SessionValue, IsPlanOf, StandsAt, IsAt, Takes}
use Rattle.session.specs.inside.Attempts.{StepsVersions, Attempts, told_of}
use Rattle.session.specs.Laws.{GoesOnAlone}
use Rattle.session.proofs.Alone.{more_instructions, steps_once}

-- lists that agree index by index are as long as each other
pairwise_length : {A B : Type 0} (R : A → B → Type 0) (xs : List A) (ys : List B) → ArePairwise R xs ys → length xs ≡ length ys
pairwise_length R [] [] all = refl
pairwise_length R [] (y ∷ ys) all = absurd all
pairwise_length R (x ∷ xs) [] all = absurd all
pairwise_length R (x ∷ xs) (y ∷ ys) all = ap suc (pairwise_length R xs ys all.1)

-- they agree when another pair that agrees is put at an index
pairwise_set : {A B : Type 0} (R : A → B → Type 0) (xs : List A) (ys : List B) (index : ℕ) (x : A) (y : B) → ArePairwise R xs ys → R x y → ArePairwise R (slice_set xs index x) (slice_set ys index y)
pairwise_set R [] [] index x y all one = tt
pairwise_set R [] (b ∷ ys) index x y all one = absurd all
pairwise_set R (a ∷ xs) [] index x y all one = absurd all
pairwise_set R (a ∷ xs) (b ∷ ys) zero x y all one = (one, all.1)
pairwise_set R (a ∷ xs) (b ∷ ys) (suc index) x y all one = (all.0, pairwise_set R xs ys index x y all.1 one)

pairwise_turned : {A B : Type 0} (R : A → B → Type 0) (xs : List A) (ys : List B) → ArePairwise R xs ys → ArePairwise (λ y x. R x y) ys xs
pairwise_turned R [] [] all = tt
pairwise_turned R [] (y ∷ ys) all = absurd all
pairwise_turned R (x ∷ xs) [] all = absurd all
pairwise_turned R (x ∷ xs) (y ∷ ys) all = (all.0, pairwise_turned R xs ys all.1)

pub numbered_partner : {A B : Type 0} (R : A → B → Type 0) (xs : List A) (ys : List B) (number : ℕ) (x : A) → ArePairwise R xs ys → nth_from_one xs number ≡ Some x
    → HasPartner R x (nth_from_one ys number)
numbered_partner R xs ys zero x all is = absurd (none_is x is)
  where
    none_is : {A : Type 0} (x : A) → None ≡ Some x → ⊥
    none_is x e = cc
numbered_partner R xs ys (suc index) x all is = partner_at R xs ys index x all is

pub numbered_none : {A B : Type 0} (R : A → B → Type 0) (xs : List A) (ys : List B) (number : ℕ) → ArePairwise R xs ys → nth_from_one xs number ≡ None → nth_from_one ys number ≡ None
numbered_none R xs ys zero all is = refl
numbered_none R xs ys (suc index) all is = none_at R xs ys index all is

-- the job of a session that stands where the world's job of a number stands
pub numbered_job : (js : List JobValue) (jobs : List WorldJob) (number : ℕ) (job : WorldJob) → ArePairwise StandsAt js jobs → nth_from_one jobs number ≡ Some job
    → HasPartner (λ job j. StandsAt j job) job (nth_from_one js number)
numbered_job js jobs number job all is = numbered_partner (λ job j. StandsAt j job) jobs js number job (pairwise_turned StandsAt js jobs all) is

-- steps of the versions

refused_there : (w : World) (st : Step) (number : ℕ) → reply_to w.versions st ≡ Refused number → ((n : ℕ) → changed w.versions st (Refused n) ≡ w.versions) → on_versions w st ≡ step_refused w number
refused_there w st number is unchanged =
    let same : state_after w.versions st ≡ w.versions = ap (changed w.versions st) is ∙ unchanged number in
    ap (λ (r : Reply). record { reply = Of r; world = record w { versions = state_after w.versions st } }) is
    ∙ ap (λ (s : State). record { reply = Of (Refused number); world = record w { versions = s } }) same

versions_refused : (programs : List ScheduledProgram) (w : World) (st : Step) (old : SessionValue) (number : ℕ) → IsAt programs w old → ((n : ℕ) → changed w.versions st (Refused n) ≡ w.versions)
    → reply_to old.versions st ≡ Refused number → on_versions w st ≡ step_refused w number
versions_refused programs w st old number at unchanged is = refused_there w st number (ap (λ (s : State). reply_to s st) (sym at.versions) ∙ is) unchanged

-- a step of the versions that no refusal changes
pub versions_attempt : (programs : List ScheduledProgram) (w : World) (st : Step) (old new : SessionValue) (result : Result SessionReply SessionError) → IsAt programs w old
    → ((n : ℕ) → changed w.versions st (Refused n) ≡ w.versions) → StepsVersions old st result new → Attempts programs w (on_versions w st) old result new
versions_attempt programs w st old new (Ok reply) at unchanged steps = record {
  reply_is = steps.0 ∙ ap (λ (s : State). Of (reply_to s st)) at.versions;
  stands = subst (IsAt programs (on_versions w st).world) (sym steps.1) (record {
    plans = at.plans;
    versions = ap (λ (s : State). state_after s st) at.versions;
    jobs = at.jobs;
  });
}
versions_attempt programs w st old new (Err NoMemory) at unchanged steps = steps
versions_attempt programs w st old new (Err VertexRange) at unchanged steps = (versions_refused programs w st old 111 at unchanged steps.0, steps.1)
versions_attempt programs w st old new (Err BadChunkSize) at unchanged steps = (versions_refused programs w st old 103 at unchanged steps.0, steps.1)
versions_attempt programs w st old new (Err NotKept) at unchanged steps = (versions_refused programs w st old 121 at unchanged steps.0, steps.1)
versions_attempt programs w st old new (Err NotHeld) at unchanged steps = (versions_refused programs w st old 122 at unchanged steps.0, steps.1)
versions_attempt programs w st old new (Err HistoryFull) at unchanged steps = (versions_refused programs w st old 123 at unchanged steps.0, steps.1)
versions_attempt programs w st old new (Err NoProgram) at unchanged steps = (versions_refused programs w st old 412 at unchanged steps.0, steps.1)
versions_attempt programs w st old new (Err NoJob) at unchanged steps = (versions_refused programs w st old 413 at unchanged steps.0, steps.1)

-- starts

pub no_program : (programs : List ScheduledProgram) (w : World) (old : SessionValue) (program turns : ℕ) (graph : Option Digraph) → IsAt programs w old → nth_from_one old.plans program ≡ None
    → start w turns (nth_from_one programs program) graph ≡ step_refused w 412
no_program programs w old program turns graph at none = ap (λ (p : Option ScheduledProgram). start w turns p graph) (numbered_none IsPlanOf old.plans programs program at.plans none)

pub no_ticket : (programs : List ScheduledProgram) (w : World) (old : SessionValue) (program turns : ℕ) (plan : Plan) (graph : Option Digraph) → IsAt programs w old
    → nth_from_one old.plans program ≡ Some plan
    → graph ≡ None → start w turns (nth_from_one programs program) graph ≡ step_refused w 122
no_ticket programs w old program turns plan graph at found none =
    let partner = numbered_partner IsPlanOf old.plans programs program plan at.plans found in
    ap (λ (p : Option ScheduledProgram). start w turns p graph) partner.is_there ∙ ap (start w turns (Some partner.partner)) none

-- the value of a job that is new: it stands before the first instruction
abbrev pub IsNewJob : Plan → Digraph → (turns : ℕ) → JobValue → Type 0
IsNewJob plan graph turns j = (p : ProgramTree) (s : ScheduleTree) → IsPlan plan p s → j ≡ job_value plan graph turns (first_configuration (initial_state p (graph_value graph) turns))

stands_new : (plan : Plan) (graph : Digraph) (turns : ℕ) (j : JobValue) (program : ScheduledProgram) → IsPlanOf plan program → IsNewJob plan graph turns j
    → StandsAt j (record { program = program; graph = graph; turns = turns; count = 0 })
stands_new plan graph turns j program of new =
    let is : j ≡ job_value plan graph turns (index_after program graph turns 0) = new program.tree program.schedule of.planned in
    let same : j.plan ≡ plan = ap (λ (v : JobValue). v.plan) is in
    record {
      plan = subst (λ (q : Plan). IsPlanOf q program) (sym same) of;
      is = is ∙ ap (λ (q : Plan). job_value q graph turns (index_after program graph turns 0)) (sym same);
    }

pub starts : (programs : List ScheduledProgram) (w : World) (old new : SessionValue) (program turns : ℕ) (plan : Plan) (graph : Digraph) (asked : Option Digraph) (j : JobValue) → IsAt programs w old
    → nth_from_one old.plans program ≡ Some plan → asked ≡ Some graph → IsNewJob plan graph turns j → new ≡ record old { jobs = old.jobs ++ j ∷ [] }
    → Takes programs (start w turns (nth_from_one programs program) asked) (Job (length old.jobs + 1)) new
starts programs w old new program turns plan graph asked j at found held is_new after =
    let partner = numbered_partner IsPlanOf old.plans programs program plan at.plans found in
    let started : Takes programs (start w turns (Some partner.partner) (Some graph)) (Job (length old.jobs + 1)) new = record {
      reply_is = ap (λ (n : ℕ). Job (n + 1)) (pairwise_length StandsAt old.jobs w.jobs at.jobs);
      stands = subst (IsAt programs (start w turns (Some partner.partner) (Some graph)).world) (sym after) (record {
        plans = at.plans;
        versions = at.versions;
        jobs = pairwise_snoc StandsAt old.jobs w.jobs j _ at.jobs (stands_new plan graph turns j partner.partner partner.related is_new);
      });
    } in
    subst (λ (p : Option ScheduledProgram). Takes programs (start w turns p asked) (Job (length old.jobs + 1)) new) (sym partner.is_there)
    (subst (λ (g : Option Digraph). Takes programs (start w turns (Some partner.partner) g) (Job (length old.jobs + 1)) new) (sym held) started)

-- steps of jobs

pub no_job : (programs : List ScheduledProgram) (w : World) (old : SessionValue) (number : ℕ) → IsAt programs w old → nth_from_one old.jobs number ≡ None
    → job_step w number (nth_from_one w.jobs number) ≡ step_refused w 413
no_job programs w old number at none = ap (job_step w number) (numbered_none StandsAt old.jobs w.jobs number at.jobs none)

-- the value of a job after one step
abbrev pub IsNextOf : JobValue → JobValue → Type 0
IsNextOf old new = (p : ProgramTree) (s : ScheduleTree) → IsPlan old.plan p s → AppliesReduce p (plan_of p s)
    → new ≡ job_value old.plan old.graph old.turns (step p (graph_value old.graph) (plan_of p s) old.stands)

stand_kept : (i : Option Instruction) (index : ℕ) (loops : List LoopCounter) (s : StateValue) → stand_of (kept_at i index loops s) ≡ stand_of (At index loops s)
stand_kept None index loops s = refl
stand_kept (Some i) index loops s = refl

-- how a job stands does not depend on what it forgets where it rests
pub stand_resting : (is : List Instruction) (c : Configuration) → stand_of (resting is c) ≡ stand_of c
stand_resting is (At index loops s) = stand_kept (slice_get is index) index loops s
stand_resting is (Ended s end) = refl

-- the value of a job after so many steps more of its program's machine
abbrev pub IsLaterOf : (n : ℕ) → WorldJob → JobValue → JobValue → Type 0
IsLaterOf n job old new = new ≡ job_value old.plan old.graph old.turns (steps job.program.tree (graph_value old.graph) (plan_of job.program.tree job.program.schedule) n old.stands)

-- a job that has gone on stands where the world's job does that has gone on as far
pub stands_later : (n : ℕ) (old new : JobValue) (job later : WorldJob) → StandsAt old job → GoesOnAlone job n later → IsLaterOf n job old new → StandsAt new later
stands_later n old new job later at goes is =
    let p = job.program.tree in
    let s = job.program.schedule in
    let rests = resting old.plan.instructions.items in
    let graph : old.graph ≡ job.graph = ap (λ (v : JobValue). v.graph) at.is in
    let turns : old.turns ≡ job.turns = ap (λ (v : JobValue). v.turns) at.is in
    let stands : old.stands ≡ rests (job_index job) = ap (λ (v : JobValue). v.stands) at.is in
    let same : new.plan ≡ old.plan = ap (λ (v : JobValue). v.plan) is in
    let there : new ≡ job_value old.plan later.graph later.turns (job_index later) =
    is ∙ ap (λ (c : Configuration). job_value old.plan old.graph old.turns (steps p (graph_value old.graph) (plan_of p s) n c)) stands
    ∙ ap (λ (c : Configuration). record { plan = old.plan; graph = old.graph; turns = old.turns; stands = c }) (steps_resting p (graph_value old.graph) old.plan s at.plan.planned n (job_index job))
    ∙ ap (λ (g : Digraph). job_value old.plan g old.turns (steps p (graph_value g) (plan_of p s) n (job_index job))) graph
    ∙ ap (λ (k : ℕ). job_value old.plan job.graph k (steps p (graph_value job.graph) (plan_of p s) n (job_index job))) turns
    ∙ ap (λ (c : Configuration). job_value old.plan job.graph job.turns c) (sym (more_instructions job.program job.graph job.turns job.count n) ∙ sym goes.stands)
    ∙ ap (λ (g : Digraph). job_value old.plan g job.turns (job_index later)) (sym goes.graph)
    ∙ ap (λ (k : ℕ). job_value old.plan later.graph k (job_index later)) (sym goes.turns) in
    record {
      plan = subst (λ (q : Plan). IsPlanOf q later.program) (sym same) (subst (λ (r : ScheduledProgram). IsPlanOf old.plan r) (sym goes.program) at.plan);
      is = there ∙ ap (λ (q : Plan). job_value q later.graph later.turns (job_index later)) (sym same);
    }

pub pairwise_with : {A B : Type 0} (R : A → B → Type 0) (xs : List A) (ys : List B) (number : ℕ) (x : A) (y : B) → ArePairwise R xs ys → R x y
    → ArePairwise R (with_numbered xs number x) (with_numbered ys number y)
pairwise_with R xs ys zero x y all one = all
pairwise_with R xs ys (suc index) x y all one = pairwise_set R xs ys index x y all one

pub steps_job : (programs : List ScheduledProgram) (w : World) (old new : SessionValue) (number : ℕ) (j k : JobValue) → IsAt programs w old → nth_from_one old.jobs number ≡ Some j → IsNextOf j k
    → new ≡ record old { jobs = with_numbered old.jobs number k } → Takes programs (job_step w number (nth_from_one w.jobs number)) (Stands (stand_of k.stands)) new
steps_job programs w old new number j k at found next after =
    let partner = numbered_partner StandsAt old.jobs w.jobs number j at.jobs found in
    let job = partner.partner in
    let stepped_job : StandsAt k (after_its_step job) =
    stands_later 1 j k job (after_its_step job) partner.related (steps_once job (job_index job) refl)
    (next job.program.tree job.program.schedule partner.related.plan.planned partner.related.plan.reducing) in
    let stepped : Takes programs (job_step w number (Some job)) (Stands (stand_of k.stands)) new = record {
      reply_is = ap (λ (v : JobValue). Stands (stand_of v.stands)) stepped_job.is ∙ ap Stands (stand_resting k.plan.instructions.items (job_index (after_its_step job)));
      stands = subst (IsAt programs (job_step w number (Some job)).world) (sym after) (record {
        plans = at.plans;
        versions = at.versions;
        jobs = pairwise_with StandsAt old.jobs w.jobs number k (after_its_step job) at.jobs stepped_job;
      });
    } in
    subst (λ (o : Option WorldJob). Takes programs (job_step w number o) (Stands (stand_of k.stands)) new) (sym partner.is_there) stepped

-- a refusal that is told as a reply
refused_takes : (programs : List ScheduledProgram) (w : World) (a : StepAnswer) (old new : SessionValue) (number : ℕ) → IsAt programs w old → a ≡ step_refused w number → new ≡ old
    → Takes programs a (Of (Refused number)) new
refused_takes programs w a old new number at is same =
    subst (λ (b : StepAnswer). Takes programs b (Of (Refused number)) new) (sym is) (record { reply_is = refl; stands = subst (IsAt programs w) (sym same) at })

-- what is told of an attempt at a step
pub told_takes : (step : SessionStep) (old new : SessionValue) (result : Result SessionReply SessionError)
    → ((programs : List ScheduledProgram) (w : World) → IsAt programs w old → Attempts programs w (step_answer programs w step) old result new)
    → IfOk (told_of result) (λ reply. (programs : List ScheduledProgram) (w : World) → IsAt programs w old → Takes programs (step_answer programs w step) reply new)
told_takes step old new (Ok reply) is = is
told_takes step old new (Err NoMemory) is = tt
told_takes step old new (Err VertexRange) is = λ programs w at. let no = is programs w at in refused_takes programs w (step_answer programs w step) old new 111 at no.0 no.1
told_takes step old new (Err BadChunkSize) is = λ programs w at. let no = is programs w at in refused_takes programs w (step_answer programs w step) old new 103 at no.0 no.1
told_takes step old new (Err NotKept) is = λ programs w at. let no = is programs w at in refused_takes programs w (step_answer programs w step) old new 121 at no.0 no.1
told_takes step old new (Err NotHeld) is = λ programs w at. let no = is programs w at in refused_takes programs w (step_answer programs w step) old new 122 at no.0 no.1
told_takes step old new (Err HistoryFull) is = λ programs w at. let no = is programs w at in refused_takes programs w (step_answer programs w step) old new 123 at no.0 no.1
told_takes step old new (Err NoProgram) is = λ programs w at. let no = is programs w at in refused_takes programs w (step_answer programs w step) old new 412 at no.0 no.1
told_takes step old new (Err NoJob) is = λ programs w at. let no = is programs w at in refused_takes programs w (step_answer programs w step) old new 413 at no.0 no.1

pub told_err : (P : Type 0) (result : Result SessionReply SessionError) → OnErr result P → OnErr (told_of result) P
told_err P (Ok reply) is = tt
told_err P (Err NoMemory) is = is
told_err P (Err VertexRange) is = tt
told_err P (Err BadChunkSize) is = tt
told_err P (Err NotKept) is = tt
told_err P (Err NotHeld) is = tt
told_err P (Err HistoryFull) is = tt
told_err P (Err NoProgram) is = tt
told_err P (Err NoJob) is = tt

pub told_only_memory : (result : Result SessionReply SessionError) → IfErr (told_of result) (λ e. e ≡ NoMemory)
told_only_memory (Ok reply) = tt
told_only_memory (Err NoMemory) = refl
told_only_memory (Err VertexRange) = tt
told_only_memory (Err BadChunkSize) = tt
told_only_memory (Err NotKept) = tt
told_only_memory (Err NotHeld) = tt
told_only_memory (Err HistoryFull) = tt
told_only_memory (Err NoProgram) = tt
told_only_memory (Err NoJob) = tt

-- memory runs out for a step, and nothing is changed
pub no_memory_attempt : (programs : List ScheduledProgram) (w : World) (a : StepAnswer) (old new : SessionValue) (result : Result SessionReply SessionError) → IsErrAnd result (λ e. e ≡ NoMemory) → new ≡ old
    → Attempts programs w a old result new
no_memory_attempt programs w a old new (Ok reply) is same = absurd is
no_memory_attempt programs w a old new (Err e) is same = subst (λ (f : SessionError). Attempts programs w a old (Err f) new) (sym is) same

pub on_err : {A E : Type 0} (result : Result A E) (P : Type 0) → P → OnErr result P
on_err (Ok x) P is = tt
on_err (Err e) P is = is
