-- Laws of the world, in plain words.
use Rattle.std.specs.Prelude.{◌≡◌, ℕ, ◌+◌, ◌==◌, Bool, false, List, [], ◌∷◌, ◌++◌, length, take}
use Rattle.std.specs.Option.{option_map}
use Rattle.algorithm_meaning.specs.declared.outcome.End.{End}
use Rattle.algorithm_meaning.specs.declared.outcome.Outcome.{Outcome}
use Rattle.algorithm_meaning.specs.Meaning.{meaning}
use Rattle.plans.specs.declared.plan.Plan.{Plan}
use Rattle.plans.specs.Operation.{ArePairwise}
use Rattle.plans.specs.Machine.{Configuration}
use Rattle.plans.specs.Plan.{plan_of}
use Rattle.run_state.specs.State.{graph_value}
use Rattle.runner.specs.declared.job.Stand.TheVariants.{Ended}
use Rattle.runner.specs.Job.{stand_of}
use Rattle.runner.specs.Position.{outcome_so_far}
use Rattle.runner.specs.Resting.{JobValue, job_value}
use Rattle.tree_batch.specs.declared.batch.Entry.{Entry}
use Rattle.tree_batch.specs.Digraph.{empty_graph, graph_through}
use Rattle.version_list.specs.declared.step.Reply.TheVariants.{Version}
use Rattle.version_list.specs.Machine.{newest_number, ticket_graph, ticket_version, version_graph}
use Rattle.session.specs.declared.step.SessionStep.{SessionStep}
use Rattle.session.specs.declared.step.SessionStep.TheVariants.{Commit, JobStep}
use Rattle.session.specs.declared.step.SessionReply.{SessionReply}
use Rattle.session.specs.declared.step.SessionReply.TheVariants.{Of}
use Rattle.session.specs.World.{ScheduledProgram, WorldJob, World, index_after, job_index, step_answer, world_after}
use Rattle.session.specs.Standing.{IsPlanOf}

-- whether it is a step of the job of this number
abbrev pub is_step_of : (number : ℕ) → SessionStep → Bool
is_step_of number (JobStep job) = job == number
is_step_of number step = false

-- The job's program, graph and bound are unchanged, and its machine has done so many more instructions.
pub record GoesOnAlone (old : WorldJob) (more : ℕ) (new : WorldJob) : Type 0 where
  pub program : new.program ≡ old.program
  pub graph : new.graph ≡ old.graph
  pub turns : new.turns ≡ old.turns
  pub stands : job_index new ≡ index_after old.program old.graph old.turns (old.count + more)

-- The job of a session runs a plan of the old job's program on its graph within its bound, and its machine has done so many more
-- instructions.
pub record RunsAlone (old : WorldJob) (more : ℕ) (new : JobValue) : Type 0 where
  pub plan : IsPlanOf new.plan old.program
  pub is : new ≡ job_value new.plan old.graph old.turns (index_after old.program old.graph old.turns (old.count + more))

-- what a run of the job's program shows in this configuration
abbrev pub shown_at : WorldJob → Configuration → Outcome
shown_at job c = outcome_so_far job.program.tree job.turns (plan_of job.program.tree job.program.schedule) c

-- The job of a session shows what the run of the program shows on the graph after the count of instructions, and at its end what the program means.
pub record ShowsItsOwnRun (job : WorldJob) (j : JobValue) : Type 0 where
  pub so_far : shown_at job j.stands ≡ shown_at job (job_index job)
  pub at_end : (end : End) → stand_of j.stands ≡ Ended end → shown_at job j.stands ≡ meaning job.program.tree (graph_value job.graph) job.turns

-- in both orders the two steps have the same replies and lead to the same world
pub record MayChangePlaces (programs : List ScheduledProgram) (w : World) (one other : SessionStep) : Type 0 where
  pub worlds : world_after programs w (one ∷ other ∷ []) ≡ world_after programs w (other ∷ one ∷ [])
  pub one_reply : (step_answer programs (step_answer programs w other).world one).reply ≡ (step_answer programs w one).reply
  pub other_reply : (step_answer programs (step_answer programs w one).world other).reply ≡ (step_answer programs w other).reply

-- the batch that a step commits, none if it is refused or no commit
abbrev pub batch_committed_by : SessionStep → SessionReply → List (List Entry)
batch_committed_by (Commit batch) (Of (Version number)) = batch ∷ []
batch_committed_by step reply = []

-- the batches that steps commit, one after another
abbrev pub committed_batches : List ScheduledProgram → World → List SessionStep → List (List Entry)
committed_batches programs w [] = []
committed_batches programs w (step ∷ steps) = batch_committed_by step (step_answer programs w step).reply
    ++ committed_batches programs (step_answer programs w step).world steps

-- The number of the newest version is that of the batches. The graph of version k, also for a ticket on it, is the graph of n
-- vertices without edges after the first k batches.
pub record HasFolds (n : ℕ) (batches : List (List Entry)) (w : World) : Type 0 where
  pub number : newest_number w.versions ≡ length batches
  pub graph : (k : ℕ) → version_graph w.versions k ≡ graph_through (empty_graph n) (take k batches)
  pub held : (ticket : ℕ) → ticket_graph w.versions ticket ≡ option_map (λ k. graph_through (empty_graph n) (take k batches))
      (ticket_version w.versions.open_tickets ticket)

-- programs of which these are the plans
pub record HasPrograms (plans : List Plan) : Type 0 where
  pub programs : List ScheduledProgram
  pub are : ArePairwise IsPlanOf plans programs
