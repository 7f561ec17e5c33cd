-- Sessions as contracts see them, and the world at which one stands.
use Rattle.std.specs.Prelude.{◌≡◌, ℕ, ◌<◌, true, false, List, [], length, take, replicate, Option, Some, None, Result, Ok, Err}
use Rattle.algorithm_meaning.specs.declared.outcome.End.{End}
use Rattle.plans.specs.declared.plan.Plan.{Plan}
use Rattle.plans.specs.Operation.{ArePairwise}
use Rattle.plans.specs.Plan.{plan_of}
use Rattle.plans.specs.PlanOf.{IsPlan}
use Rattle.plans.specs.Reducing.{AppliesReduce}
use Rattle.runner.specs.declared.job.Stand.TheVariants.{Ended}
use Rattle.runner.specs.Resting.{JobValue, job_value}
use Rattle.tree_batch.specs.Digraph.{is_vertex_count, is_chunk_size}
use Rattle.version_list.specs.declared.step.Reply.TheVariants.{Refused}
use Rattle.version_list.specs.Machine.{State, opened}
use Rattle.session.specs.declared.error.SessionError.{SessionError}
use Rattle.session.specs.declared.error.SessionError.TheVariants.{VertexRange, BadChunkSize, NotKept, NotHeld, HistoryFull, NoProgram, NoJob, NoMemory}
use Rattle.session.specs.declared.step.SessionStep.{SessionStep}
use Rattle.session.specs.declared.step.SessionStep.TheVariants.{JobStep}
use Rattle.session.specs.declared.step.SessionReply.{SessionReply}
use Rattle.session.specs.declared.step.SessionReply.TheVariants.{Of, Stands}
use Rattle.session.specs.World.{ScheduledProgram, WorldJob, World, StepAnswer, job_index, nth_from_one, step_answer, step_replies, world_after}

-- the plans of the programs, the state of the versions, and the jobs in the order in which they were started
pub record SessionValue : Type 0 where
  pub plans : List Plan
  pub versions : State
  pub jobs : List JobValue

-- the plan is that of the program under its schedule, and each edge apply of it gives a vector numbers by one reduction
pub record IsPlanOf (plan : Plan) (program : ScheduledProgram) : Type 0 where
  pub planned : IsPlan plan program.tree program.schedule
  pub reducing : AppliesReduce program.tree (plan_of program.tree program.schedule)

-- the job runs a plan of the world's program on the world's graph, and is where the machine is after the world's count of instructions
pub record StandsAt (j : JobValue) (job : WorldJob) : Type 0 where
  pub plan : IsPlanOf j.plan job.program
  pub is : j ≡ job_value j.plan job.graph job.turns (job_index job)

-- the session has plans of these programs, and is where the world stands
pub record IsAt (programs : List ScheduledProgram) (w : World) (s : SessionValue) : Type 0 where
  pub plans : ArePairwise IsPlanOf s.plans programs
  pub versions : s.versions ≡ w.versions
  pub jobs : ArePairwise StandsAt s.jobs w.jobs

-- a session that is opened with these plans, or the first refusal
abbrev pub Opens : (n b : ℕ) → List Plan → Result SessionValue SessionError → Type 0
Opens n b plans (Ok s) = (is_vertex_count n ≡ true) × (is_chunk_size b ≡ true) × (s ≡ record { plans = plans; versions = opened n 16777216; jobs = [] })
Opens n b plans (Err VertexRange) = is_vertex_count n ≡ false
Opens n b plans (Err BadChunkSize) = (is_vertex_count n ≡ true) × (is_chunk_size b ≡ false)
Opens n b plans (Err NoMemory) = (is_vertex_count n ≡ true) × (is_chunk_size b ≡ true)
Opens n b plans (Err NotKept) = ⊥
Opens n b plans (Err NotHeld) = ⊥
Opens n b plans (Err HistoryFull) = ⊥
Opens n b plans (Err NoProgram) = ⊥
Opens n b plans (Err NoJob) = ⊥

-- the reply is the answer's, and the session is where the answer's world stands
pub record Takes (programs : List ScheduledProgram) (a : StepAnswer) (reply : SessionReply) (s : SessionValue) : Type 0 where
  pub reply_is : reply ≡ a.reply
  pub stands : IsAt programs a.world s

-- So it is with steps, one after another, where replies is the list that the call gives. Where memory runs out the call may stop before a step, after those in
-- front of it.
abbrev pub Runs : {A : Type 0} → List ScheduledProgram → World → List SessionStep → (A → List SessionReply) → Result A SessionError → SessionValue → Type 0
Runs programs w steps replies (Ok x) new = (replies x ≡ step_replies programs w steps) × IsAt programs (world_after programs w steps) new
Runs programs w steps replies (Err NoMemory) new = (k : ℕ) × (k < length steps) × IsAt programs (world_after programs w (take k steps)) new
Runs programs w steps replies (Err e) new = ⊥

-- the reply says how the job has ended; where there is no job it is a refusal, and the session is as it was
abbrev pub TellsEnd : Option WorldJob → SessionValue → SessionReply → SessionValue → Type 0
TellsEnd None old reply new = (reply ≡ Of (Refused 413)) × (new ≡ old)
TellsEnd (Some job) old reply new = (end : End) × (reply ≡ Stands (Ended end))

-- the world after so many steps of the job of this number
abbrev pub after_job_steps : List ScheduledProgram → World → (number count : ℕ) → World
after_job_steps programs w number count = world_after programs w (replicate count (JobStep number))

-- After some number of steps of the job, one more is taken with this reply. The reply says how the job has ended.
pub record HasFinished (programs : List ScheduledProgram) (w : World) (number : ℕ) (old : SessionValue) (reply : SessionReply) (new : SessionValue) : Type 0 where
  pub count : ℕ
  pub takes : Takes programs (step_answer programs (after_job_steps programs w number count) (JobStep number)) reply new
  pub tells : TellsEnd (nth_from_one w.jobs number) old reply new

-- the job is finished, or memory runs out after some number of its steps
abbrev pub Finishes : List ScheduledProgram → World → (number : ℕ) → SessionValue → Result SessionReply SessionError → SessionValue → Type 0
Finishes programs w number old (Ok reply) new = HasFinished programs w number old reply new
Finishes programs w number old (Err NoMemory) new = (count : ℕ) × IsAt programs (after_job_steps programs w number count) new
Finishes programs w number old (Err e) new = ⊥
