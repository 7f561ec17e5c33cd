-- Versions are the folds of the batches that steps commit.
use Rattle.std.proofs.Common.{◌≡◌, ℕ, List, [], ◌∷◌, ◌++◌, Option, Some, None, length, take, refl, sym, ap, ◌∙◌, append_assoc}
use Rattle.std.specs.Option.{option_map}
use Rattle.std.proofs.lemmas.List.{append-nil}
use Rattle.flat_snapshot.specs.Digraph.{Digraph}
use Rattle.tree_batch.specs.declared.batch.Entry.{Entry}
use Rattle.tree_batch.specs.Digraph.{empty_graph, graph_through}
use Rattle.version_list.specs.declared.step.Which.{Which}
use Rattle.version_list.specs.declared.step.Step.TheVariants as versions
use Rattle.version_list.specs.declared.step.Reply.{Reply}
use Rattle.version_list.specs.declared.step.Reply.TheVariants.{Version, Ticket, Released, Trimmed, Refused}
use Rattle.version_list.specs.Machine.{State, changed, reply_to, ticket_graph, ticket_version, version_graph}
use Rattle.session.specs.declared.step.SessionStep.{SessionStep}
use Rattle.session.specs.declared.step.SessionStep.TheVariants.{Commit, Acquire, Release, Start, JobStep}
use Rattle.session.specs.declared.step.SessionReply.TheVariants.{Of}
use Rattle.session.specs.World.{ScheduledProgram, WorldJob, World, nth_from_one, start, job_step, step_answer, world_after, first_world}
use Rattle.session.specs.Laws.{batch_committed_by, committed_batches, HasFolds}

-- a version machine has come to another state, whose batches are these more
record Adds (old new : State) (more : List (List Entry)) : Type 0 where
  opening : new.opening ≡ old.opening
  batches : new.batches ≡ old.batches ++ more

adds_none : (s : State) → Adds s s []
adds_none s = record { opening = refl; batches = sym (append-nil s.batches) }

-- a step that was answered so
commit_adds : (s : State) (batch : List Entry) (reply : Reply) → Adds s (changed s (versions.Commit batch) reply) (batch_committed_by (Commit batch) (Of reply))
commit_adds s batch (Version number) = record { opening = refl; batches = refl }
commit_adds s batch (Ticket number version) = adds_none s
commit_adds s batch Released = adds_none s
commit_adds s batch (Trimmed count) = adds_none s
commit_adds s batch (Refused number) = adds_none s

acquire_adds : (s : State) (which : Which) (reply : Reply) → Adds s (changed s (versions.Acquire which) reply) []
acquire_adds s which (Version number) = adds_none s
acquire_adds s which (Ticket number version) = record { opening = refl; batches = sym (append-nil s.batches) }
acquire_adds s which Released = adds_none s
acquire_adds s which (Trimmed count) = adds_none s
acquire_adds s which (Refused number) = adds_none s

release_adds : (s : State) (ticket : ℕ) (reply : Reply) → Adds s (changed s (versions.Release ticket) reply) []
release_adds s ticket (Version number) = adds_none s
release_adds s ticket (Ticket number version) = adds_none s
release_adds s ticket Released = record { opening = refl; batches = sym (append-nil s.batches) }
release_adds s ticket (Trimmed count) = adds_none s
release_adds s ticket (Refused number) = adds_none s

start_adds : (w : World) (turns : ℕ) (program : Option ScheduledProgram) (graph : Option Digraph) → Adds w.versions (start w turns program graph).world.versions []
start_adds w turns None graph = adds_none w.versions
start_adds w turns (Some program) None = adds_none w.versions
start_adds w turns (Some program) (Some graph) = adds_none w.versions

job_step_adds : (w : World) (number : ℕ) (job : Option WorldJob) → Adds w.versions (job_step w number job).world.versions []
job_step_adds w number None = adds_none w.versions
job_step_adds w number (Some job) = adds_none w.versions

step_adds : (programs : List ScheduledProgram) (w : World) (step : SessionStep) → Adds w.versions (step_answer programs w step).world.versions
    (batch_committed_by step (step_answer programs w step).reply)
step_adds programs w (Commit batch) = commit_adds w.versions batch (reply_to w.versions (versions.Commit batch))
step_adds programs w (Acquire which) = acquire_adds w.versions which (reply_to w.versions (versions.Acquire which))
step_adds programs w (Release ticket) = release_adds w.versions ticket (reply_to w.versions (versions.Release ticket))
step_adds programs w (Start program ticket turns) = start_adds w turns (nth_from_one programs program) (ticket_graph w.versions ticket)
step_adds programs w (JobStep number) = job_step_adds w number (nth_from_one w.jobs number)

-- steps, one after another
steps_add : (programs : List ScheduledProgram) (w : World) (steps : List SessionStep) → Adds w.versions (world_after programs w steps).versions (committed_batches programs w steps)
steps_add programs w [] = adds_none w.versions
steps_add programs w (step ∷ steps) =
    let first = step_adds programs w step in
    let later = steps_add programs (step_answer programs w step).world steps in
    record {
      opening = later.opening ∙ first.opening;
      batches =
          later.batches ∙ ap (λ (bs : List (List Entry)). bs ++ committed_batches programs (step_answer programs w step).world steps) first.batches
          ∙ append_assoc w.versions.batches (batch_committed_by step (step_answer programs w step).reply) (committed_batches programs (step_answer programs w step).world steps);
    }

-- a version that a ticket holds, where the versions are folds
held_are : (f g : ℕ → Digraph) → ((k : ℕ) → f k ≡ g k) → (version : Option ℕ) → option_map f version ≡ option_map g version
held_are f g same None = refl
held_are f g same (Some k) = ap Some (same k)

-- from the first world on, the batches of the versions are those of the steps
pub versions_are_folds : (programs : List ScheduledProgram) (n : ℕ) (steps : List SessionStep)
    → HasFolds n (committed_batches programs (first_world n) steps) (world_after programs (first_world n) steps)
versions_are_folds programs n steps =
    let w = world_after programs (first_world n) steps in
    let all = steps_add programs (first_world n) steps in
    let graph : (k : ℕ) → version_graph w.versions k ≡ graph_through (empty_graph n) (take k (committed_batches programs (first_world n) steps)) = λ k.
    ap (λ (d : Digraph). graph_through d (take k w.versions.batches)) all.opening ∙ ap (λ (bs : List (List Entry)). graph_through (empty_graph n) (take k bs)) all.batches in
    record {
      number = ap length all.batches;
      graph = graph;
      held = λ ticket. held_are _ _ graph (ticket_version w.versions.open_tickets ticket);
    }
