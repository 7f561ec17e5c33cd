-- What a session keeps beside its versions stays of these.
use Rattle.std.proofs.Common.{◌≡◌, ℕ, ◌<◌, ◌∙◌, ◌++◌, ◌∷◌, [], true, length, get_or, List, Option, Some, None, IfSome, All, refl, sym, ap, subst, arith}
use Rattle.std.specs.Arc.{arc_value}
use Rattle.std.specs.Coded.{codes}
use Rattle.std.specs.Prelude.{slice_set}
use Rattle.std.proofs.Math.Logic.{∥∥₁_elim}
use Rattle.std.proofs.lemmas.List.Elements.{All-append, All-cons, All-nil, All-set}
use Rattle.plans.specs.contracts.plan.Plan as plan_contract
use Rattle.plans.specs.PlanOf.{IsPlan, program_of}
use Rattle.edge_differences.specs.Listed.{AreSameBut}
use Rattle.flat_snapshot.specs.Digraph.{Digraph}
use Rattle.plans.specs.declared.plan.Plan.{Plan}
use Rattle.run_records.specs.declared.follower.Follower.{Follower}
use Rattle.run_records.specs.declared.run_record.RunRecord.{RunRecord}
use Rattle.run_records.specs.inside.Follower.{IsFollower}
use Rattle.runner.specs.Resting.{JobValue}
use Rattle.runner.proofs.Resting.{stepped_twice}
use Rattle.tree_batch.specs.Edge.{Ends}
use Rattle.version_flats.specs.declared.version_flats.VersionFlats.{VersionFlats}
use Rattle.version_flats.specs.VersionFlats.{AreOf, Follows, IsKept}
use Rattle.version_list.specs.declared.step.Which.{Which}
use Rattle.version_list.specs.declared.step.Step.TheVariants.{Acquire}
use Rattle.version_list.specs.declared.step.Reply.TheVariants.{Ticket}
use Rattle.version_list.specs.Machine.{State, changed, is_kept, newest_number}
use Rattle.version_list.specs.Timeline.{Timeline, Accepts}
use Rattle.version_records.specs.declared.version_records.Predecessor.{Predecessor}
use Rattle.version_records.specs.declared.version_records.VersionRecords.{VersionRecords}
use Rattle.version_records.specs.VersionRecords.{AreRecordsOf, HaveNone, IsOfFormer, IsPredecessor, MayKeep, MayLose}
use Rattle.version_records.specs.inside.Versions.{AreVersionsOf}
use Rattle.version_records.proofs.Keeping.{AreRecordsOf-kept, AreRecordsOf-later, AreRecordsOf-lost, AreRecordsOf-none, predecessors}
use Rattle.session.specs.declared.started_job.JobOrigin.{JobOrigin}
use Rattle.session.specs.declared.started_job.StartedJob.{StartedJob}
use Rattle.session.specs.World.{nth_from_one}
use Rattle.session.specs.inside.Records.{AreOfVersions, HasItsOrigin, HaveSomePlans, IsOriginOf, IsRecordOf, IsRecordOfRun}
use Rattle.session.proofs.Attempting.{IsNewJob}
use Rattle.session.proofs.Finishing.{AreStepsOf}

origin_later : (plans : List Plan) (s t : State) (job : JobValue) (o : Option JobOrigin) → AreVersionsOf s t → IfSome o (IsOriginOf plans s job) → IfSome o (IsOriginOf plans t job)
origin_later plans s t job None same is = tt
origin_later plans s t job (Some origin) same is = record {
  plan = is.plan;
  made = omega (arith, is.made, same.made);
  graph = is.graph ∙ sym (same.graphs origin.version is.made);
}

-- after a step of the versions
pub of_later_versions : (plans : List Plan) (s t : State) (flats new_flats : VersionFlats) (records new_records : VersionRecords RunRecord) (jobs : List StartedJob) → AreVersionsOf s t
    → AreOf t new_flats → MayLose records new_records → AreOfVersions plans s flats records jobs → AreOfVersions plans t new_flats new_records jobs
of_later_versions plans s t flats new_flats records new_records jobs same are less of = record {
  are_flats = are;
  are_records = AreRecordsOf-lost (IsRecordOf plans) t records new_records less (AreRecordsOf-later (IsRecordOf plans) s t records same of.are_records);
  have_origins = λ k d within. origin_later plans s t _ _ same (of.have_origins k d within);
}

-- what follows has the versions of before
pub followed_versions : (s t : State) (version : ℕ) → Follows s t version → AreVersionsOf s t
followed_versions s t version follows = record { made = follows.made; graphs = follows.graphs }

-- a hold makes no version
pub held_versions : (old new : Timeline) (which : Which) (number version : ℕ) → Accepts old (Acquire which) (Ticket number version) new → AreVersionsOf old.state new.state
held_versions old new which number version accepted =
    let after : State = changed old.state (Acquire which) (Ticket number version) in
    let now : new.state ≡ after = accepted.state ∙ ap (changed old.state (Acquire which)) accepted.is_answer in
    let same : newest_number after ≡ newest_number old.state = refl in
    subst (AreVersionsOf old.state) (sym now) (record { made = omega (arith, same); graphs = λ k made. refl })

-- with the flats of the same versions
pub with_flats : (plans : List Plan) (s : State) (flats new_flats : VersionFlats) (records : VersionRecords RunRecord) (jobs : List StartedJob) → AreOf s new_flats
    → AreOfVersions plans s flats records jobs → AreOfVersions plans s new_flats records jobs
with_flats plans s flats new_flats records jobs are of = record { are_flats = are; are_records = of.are_records; have_origins = of.have_origins }

-- with a job whose origin is known
pub with_started : (plans : List Plan) (s : State) (flats : VersionFlats) (records : VersionRecords RunRecord) (jobs : List StartedJob) (x : StartedJob) → HasItsOrigin plans s x
    → AreOfVersions plans s flats records jobs → AreOfVersions plans s flats records (jobs ++ x ∷ [])
with_started plans s flats records jobs x has of = record {
  are_flats = of.are_flats;
  are_records = of.are_records;
  have_origins = All-append (HasItsOrigin plans s) jobs (x ∷ []) of.have_origins (All-cons (HasItsOrigin plans s) x [] has (All-nil (HasItsOrigin plans s)));
}

-- with another job without an origin at an index, and with other records
pub with_stepped : (plans : List Plan) (s : State) (flats : VersionFlats) (records new_records : VersionRecords RunRecord) (jobs : List StartedJob) (index : ℕ) (x : StartedJob)
    → AreRecordsOf (IsRecordOf plans) s new_records → x.origin ≡ None
    → AreOfVersions plans s flats records jobs → AreOfVersions plans s flats new_records (slice_set jobs index x)
with_stepped plans s flats records new_records jobs index x are none of =
    let has : HasItsOrigin plans s x = subst (λ (o : Option JobOrigin). IfSome o (IsOriginOf plans s x.job)) (sym none) tt in
    record {
      are_flats = of.are_flats;
      are_records = are;
      have_origins = All-set (HasItsOrigin plans s) jobs index x has of.have_origins;
    }

-- the origin of the job at an index
pub origin_at : (plans : List Plan) (s : State) (jobs : List StartedJob) (index : ℕ) (x : StartedJob) → All (HasItsOrigin plans s) jobs → index < length jobs → ((d : StartedJob) → x ≡ get_or jobs index d)
    → HasItsOrigin plans s x
origin_at plans s jobs index x all within is = subst (HasItsOrigin plans s) (sym (is x)) (all index x within)

-- the plan and the graph of a new job
pub plan_of_new : (plan : Plan) (graph : Digraph) (turns : ℕ) (j : JobValue) → IsNewJob plan graph turns j → j.plan ≡ plan
plan_of_new plan graph turns j new =
    ∥∥₁_elim plan.lowered (hlevel (codes, plan_contract.the_row.coded)) (λ of. ap (λ (v : JobValue). v.plan) (new (program_of plan) of.schedule of.planned))

pub graph_of_new : (plan : Plan) (graph : Digraph) (turns : ℕ) (j : JobValue) → IsNewJob plan graph turns j → j.graph ≡ graph
graph_of_new plan graph turns j new =
    ∥∥₁_elim plan.lowered (hlevel codes) (λ of. ap (λ (v : JobValue). v.graph) (new (program_of plan) of.schedule of.planned))

-- a record of a run of the program of this number is of the plan of that number
record_of_plan : (plans : List Plan) (s : State) (job : JobValue) (origin : JobOrigin) (former : Option (Predecessor RunRecord)) → IsOriginOf plans s job origin
    → IfSome former (IsPredecessor (IsRecordOf plans origin.program) job.graph) → IfSome former (IsPredecessor (IsRecordOfRun job.plan) job.graph)
record_of_plan plans s job origin None of is = tt
record_of_plan plans s job origin (Some former) of is = record {
  former_graph = is.former_graph;
  is = (same_plan (nth_from_one plans origin.program) (arc_value former.run_record.now.plan) job.plan is.is.0 of.plan, is.is.1);
  vertices = is.vertices;
  edges = is.edges;
}
  where
    same_plan : (o : Option Plan) (p q : Plan) → o ≡ Some p → o ≡ Some q → p ≡ q
    same_plan o p q one other = cc

kept_version : (plans : List Plan) (s : State) (job : JobValue) (origin : JobOrigin) → is_kept s origin.version ≡ true → IsOriginOf plans s job origin → IsKept s origin.version job.graph
kept_version plans s job origin kept of = record { kept = kept; made = of.made; graph = of.graph }

-- a record that is found for a job
pub former_of_job : (s : State) (records : VersionRecords RunRecord) (job : JobValue) (origin : JobOrigin) (former : Option (Predecessor RunRecord)) → is_kept s origin.version ≡ true
    → HaveSomePlans s records job (Some origin) → IfSome former (IsOfFormer s records origin.program origin.version) → IfSome former (IsPredecessor (IsRecordOfRun job.plan) job.graph)
former_of_job s records job origin former kept have of =
    let is_kept_version = kept_version have.plans s job origin kept have.is_origin in
    record_of_plan have.plans s job origin former have.is_origin
    (predecessors (IsRecordOf have.plans) s records origin.program origin.version job.graph former have.are_records is_kept_version of)

record_of_program : (plans : List Plan) (s : State) (job : JobValue) (origin : JobOrigin) (made : Option RunRecord) → IsOriginOf plans s job origin
    → IfSome made (λ r. IsRecordOfRun job.plan r job.graph) → IfSome made (λ r. IsRecordOf plans origin.program r job.graph)
record_of_program plans s job origin None of is = tt
record_of_program plans s job origin (Some r) of is = (of.plan ∙ ap Some (sym is.0), is.1)

-- the records after one of a job is kept
pub records_after_job : (plans : List Plan) (s : State) (old new : VersionRecords RunRecord) (job : JobValue) (origin : JobOrigin) (made : Option RunRecord) → is_kept s origin.version ≡ true
    → IsOriginOf plans s job origin → IfSome made (λ r. IsRecordOfRun job.plan r job.graph) → MayKeep old origin.program origin.version made new → AreRecordsOf (IsRecordOf plans) s old
    → AreRecordsOf (IsRecordOf plans) s new
records_after_job plans s old new job origin made kept of is keeps are =
    AreRecordsOf-kept (IsRecordOf plans) s old new origin.program origin.version made job.graph keeps (kept_version plans s job origin kept of) (record_of_program plans s job origin made of is) are

-- who follows a record that is one of a former run does the applies of this run
pub follows_former : {E : Type 0} (plan : Plan) (g : Digraph) (former : Predecessor RunRecord) (edges : List Ends) (follower : Follower E) → edges ≡ former.edges.items
    → ((h : Digraph) → (arc_value former.run_record.now.graph).vertices ≡ h.vertices → AreSameBut edges h.edges (arc_value former.run_record.now.graph).edges
    → IsFollower (arc_value former.run_record.now.plan).functions h follower)
    → IsPredecessor (IsRecordOfRun plan) g former → IsFollower plan.functions g follower
follows_former plan g former edges follower same follows of =
    subst (λ (p : Plan). IsFollower p.functions g follower) of.is.0
    (follows g (ap (λ (d : Digraph). d.vertices) of.is.1 ∙ of.vertices)
    (subst (λ (ends : List Ends). AreSameBut ends g.edges (arc_value former.run_record.now.graph).edges) (sym same)
    (subst (λ (d : Digraph). AreSameBut former.edges.items g.edges d.edges) (sym of.is.1) of.edges)))

-- a record of a job's run is one of its plan and its graph
pub record_of_job : (plan own : Plan) (graph flat : Digraph) (made : Option RunRecord) → own ≡ plan → flat ≡ graph → IfSome made (λ r. (arc_value r.plan ≡ own) × (arc_value r.graph ≡ flat))
    → IfSome made (λ r. IsRecordOfRun plan r graph)
record_of_job plan own graph flat None plans graphs is = tt
record_of_job plan own graph flat (Some r) plans graphs is = (is.0 ∙ plans, is.1 ∙ graphs)

-- a new session has nothing beside its versions
pub of_nothing : (plans : List Plan) (s : State) (flats : VersionFlats) (records : VersionRecords RunRecord) (jobs : List StartedJob) → AreOf s flats → HaveNone records → jobs ≡ []
    → AreOfVersions plans s flats records jobs
of_nothing plans s flats records jobs are none empty = record {
  are_flats = are;
  are_records = AreRecordsOf-none (IsRecordOf plans) s records none;
  have_origins = subst (All (HasItsOrigin plans s)) (sym empty) (All-nil (HasItsOrigin plans s));
}

-- a job of some plan that was stepped, and then stepped again
pub stepped_again : (old mid new : JobValue) → AreStepsOf old mid → AreStepsOf mid new → AreStepsOf old new
stepped_again old mid new one other p s planned reduces =
    let first = one p s planned reduces in
    let same : mid.plan ≡ old.plan = ap (λ (j : JobValue). j.plan) first.is in
    stepped_twice p s old mid new planned first (other p s (subst (λ (q : Plan). IsPlan q p s) (sym same) planned) reduces)
