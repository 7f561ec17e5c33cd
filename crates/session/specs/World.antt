-- The world of a session: the versions of a graph and jobs beside them, what each step replies in it, and the world after the step.
use Rattle.std.specs.Prelude.{ℕ, zero, suc, ◌+◌, List, [], ◌∷◌, ◌++◌, length, Option, Some, None, slice_get, slice_set}
use Rattle.typed_tree.specs.ProgramTree.{ProgramTree}
use Rattle.apply_options.specs.ScheduleTree.{ScheduleTree}
use Rattle.algorithm_meaning.specs.Meaning.{initial_state}
use Rattle.plans.specs.Machine.{Configuration, At, Ended, first_configuration, steps}
use Rattle.plans.specs.Plan.{plan_of}
use Rattle.flat_snapshot.specs.Digraph.{Digraph}
use Rattle.run_state.specs.State.{graph_value}
use Rattle.runner.specs.Job.{stand_of}
use Rattle.version_list.specs.declared.step.Step.{Step}
use Rattle.version_list.specs.declared.step.Step.TheVariants as versions
use Rattle.version_list.specs.declared.step.Reply.TheVariants.{Refused}
use Rattle.version_list.specs.Machine.{State, opened, ticket_graph, reply_to, state_after}
use Rattle.session.specs.declared.step.SessionStep.{SessionStep}
use Rattle.session.specs.declared.step.SessionStep.TheVariants.{Commit, Acquire, Release, Start, JobStep}
use Rattle.session.specs.declared.step.SessionReply.{SessionReply}
use Rattle.session.specs.declared.step.SessionReply.TheVariants.{Of, Job, Stands}

-- a program under its schedule
pub record ScheduledProgram : Type 0 where
  pub tree : ProgramTree
  pub schedule : ScheduleTree

-- a job: its program, the graph of the version that it was started on, its bound of turns, and how many instructions it has done
pub record WorldJob : Type 0 where
  pub program : ScheduledProgram
  pub graph : Digraph
  pub turns : ℕ
  pub count : ℕ

-- the state of the versions, and the jobs in the order in which they were started
pub record World : Type 0 where
  pub versions : State
  pub jobs : List WorldJob

-- where the machine of a program is after n instructions
abbrev pub index_after : ScheduledProgram → Digraph → (turns count : ℕ) → Configuration
index_after p g turns count =
    steps p.tree (graph_value g) (plan_of p.tree p.schedule) count (first_configuration (initial_state p.tree (graph_value g) turns))

-- where a job stands
abbrev pub job_index : WorldJob → Configuration
job_index job = index_after job.program job.graph job.turns job.count

-- a job in this state, after one more instruction: one that has ended stays
abbrev pub one_more : Configuration → WorldJob → WorldJob
one_more (At index loops s) job = record job { count = job.count + 1 }
one_more (Ended s end) job = job

-- a job after its next step
abbrev pub after_its_step : WorldJob → WorldJob
after_its_step job = one_more (job_index job) job

-- what has this number in a list, counted from 1
abbrev pub nth_from_one : {A : Type 0} → List A → ℕ → Option A
nth_from_one xs zero = None
nth_from_one xs (suc index) = slice_get xs index

-- the list with another item at this number
abbrev pub with_numbered : {A : Type 0} → List A → ℕ → A → List A
with_numbered xs zero x = xs
with_numbered xs (suc index) x = slice_set xs index x

-- what a step is answered, and the world after it
pub record StepAnswer : Type 0 where
  pub reply : SessionReply
  pub world : World

-- a refusal changes nothing
abbrev pub step_refused : World → (number : ℕ) → StepAnswer
step_refused w number = record { reply = Of (Refused number); world = w }

-- a step of the versions is the version machine's
abbrev pub on_versions : World → Step → StepAnswer
on_versions w step = record { reply = Of (reply_to w.versions step); world = record w { versions = state_after w.versions step } }

-- a job of a program on a graph is the last of the jobs, and has done nothing
abbrev pub start : World → (turns : ℕ) → Option ScheduledProgram → Option Digraph → StepAnswer
start w turns None graph = step_refused w 412
start w turns (Some program) None = step_refused w 122
start w turns (Some program) (Some graph) = record {
  reply = Job (length w.jobs + 1);
  world = record w { jobs = w.jobs ++ record { program = program; graph = graph; turns = turns; count = 0 } ∷ [] };
}

-- a step of the job of this number, which is this one
abbrev pub job_step : World → (number : ℕ) → Option WorldJob → StepAnswer
job_step w number None = step_refused w 413
job_step w number (Some job) = record {
  reply = Stands (stand_of (job_index (after_its_step job)));
  world = record w { jobs = with_numbered w.jobs number (after_its_step job) };
}

-- what a step is answered where the programs are these
abbrev pub step_answer : List ScheduledProgram → World → SessionStep → StepAnswer
step_answer programs w (Commit batch) = on_versions w (versions.Commit batch)
step_answer programs w (Acquire which) = on_versions w (versions.Acquire which)
step_answer programs w (Release ticket) = on_versions w (versions.Release ticket)
step_answer programs w (Start program ticket turns) = start w turns (nth_from_one programs program) (ticket_graph w.versions ticket)
step_answer programs w (JobStep job) = job_step w job (nth_from_one w.jobs job)

-- what steps are answered, one after another
abbrev pub step_replies : List ScheduledProgram → World → List SessionStep → List SessionReply
step_replies programs w [] = []
step_replies programs w (step ∷ steps) = (step_answer programs w step).reply ∷ step_replies programs (step_answer programs w step).world steps

-- the world after steps, one after another
abbrev pub world_after : List ScheduledProgram → World → List SessionStep → World
world_after programs w [] = w
world_after programs w (step ∷ steps) = world_after programs (step_answer programs w step).world steps

-- a graph of n vertices without edges as version 0, and no job
abbrev pub first_world : (n : ℕ) → World
first_world n = record { versions = opened n 16777216; jobs = [] }
