-- The records of a session's runs, and the jobs that may follow one.
use Rattle.std.specs.Prelude.{◌≡◌, ℕ, ◌≤◌, IfSome, List, Option, Some, All}
use Rattle.std.specs.Arc.{arc_value}
use Rattle.flat_snapshot.specs.Digraph.{Digraph}
use Rattle.plans.specs.declared.plan.Plan.{Plan}
use Rattle.run_records.specs.declared.follower.Follower.{Follower}
use Rattle.run_records.specs.declared.run_record.RunRecord.{RunRecord}
use Rattle.run_records.specs.inside.Follower.{IsFollower}
use Rattle.runner.specs.Resting.{JobValue}
use Rattle.version_flats.specs.declared.version_flats.VersionFlats.{VersionFlats}
use Rattle.version_flats.specs.VersionFlats.{AreOf}
use Rattle.version_list.specs.Machine.{State, newest_number, version_graph}
use Rattle.version_records.specs.declared.version_records.Predecessor.{Predecessor}
use Rattle.version_records.specs.declared.version_records.VersionRecords.{VersionRecords}
use Rattle.version_records.specs.VersionRecords.{AreRecordsOf, IsPredecessor}
use Rattle.session.specs.declared.started_job.JobOrigin.{JobOrigin}
use Rattle.session.specs.declared.started_job.StartedJob.{StartedJob}
use Rattle.session.specs.World.{nth_from_one}

-- the record is that of a run of the plan on the graph
abbrev pub IsRecordOfRun : Plan → RunRecord → Digraph → Type 0
IsRecordOfRun plan r graph = (arc_value r.plan ≡ plan) × (arc_value r.graph ≡ graph)

-- the record is that of a run of the plan of this number on the graph
abbrev pub IsRecordOf : List Plan → (program : ℕ) → RunRecord → Digraph → Type 0
IsRecordOf plans program r graph = (nth_from_one plans program ≡ Some (arc_value r.plan)) × (arc_value r.graph ≡ graph)

-- the job runs the plan of the origin's number on the graph of the origin's version, which was made
pub record IsOriginOf (plans : List Plan) (s : State) (job : JobValue) (origin : JobOrigin) : Type 0 where
  pub plan : nth_from_one plans origin.program ≡ Some job.plan
  pub made : origin.version ≤ newest_number s
  pub graph : job.graph ≡ version_graph s origin.version

-- so it is where the job has done nothing yet
abbrev pub HasItsOrigin : List Plan → State → StartedJob → Type 0
HasItsOrigin plans s started = IfSome started.origin (IsOriginOf plans s started.job)

-- what a session keeps beside its versions is of these versions
pub record AreOfVersions (plans : List Plan) (s : State) (flats : VersionFlats) (records : VersionRecords RunRecord) (jobs : List StartedJob) : Type 0 where
  pub are_flats : AreOf s flats
  pub are_records : AreRecordsOf (IsRecordOf plans) s records
  pub have_origins : All (HasItsOrigin plans s) jobs

-- there are plans of which the records and the job are
pub record HaveSomePlans (s : State) (records : VersionRecords RunRecord) (job : JobValue) (origin : Option JobOrigin) : Type 0 where
  pub plans : List Plan
  pub are_records : AreRecordsOf (IsRecordOf plans) s records
  pub is_origin : IfSome origin (IsOriginOf plans s job)

-- the records stay those of runs of their plans, whatever the plans are of which they and the job were
abbrev pub StayRecords : State → (old new : VersionRecords RunRecord) → JobValue → Option JobOrigin → Type 0
StayRecords s old new job origin = (plans : List Plan) → AreRecordsOf (IsRecordOf plans) s old → IfSome origin (IsOriginOf plans s job) → AreRecordsOf (IsRecordOf plans) s new

-- the follower serves each run for which the record that it is given, if there is one, is that of a former run
abbrev pub ServesRuns : {E : Type 0} → Option (Predecessor RunRecord) → Follower E → Type 0
ServesRuns former follower = (plan : Plan) (graph : Digraph) → IfSome former (IsPredecessor (IsRecordOfRun plan) graph) → IsFollower plan.functions graph follower
