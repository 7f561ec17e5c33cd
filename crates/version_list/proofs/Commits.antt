-- A legal history leads to the batches that it commits.
use Rattle.std.proofs.Common.{◌≡◌, ℕ, List, [], ◌∷◌, ◌++◌, inl, inr, refl, sym, ap, ◌∙◌, subst, append_assoc}
use Rattle.std.proofs.lemmas.Bool.{cases_Bool}
use Rattle.std.proofs.lemmas.List.{append-nil}
use Rattle.tree_batch.specs.declared.batch.Entry.{Entry}
use Rattle.tree_batch.specs.Edge.{misfits}
use Rattle.version_list.specs.declared.step.Step.{Step}
use Rattle.version_list.specs.declared.step.Which.{Which}
use Rattle.version_list.specs.declared.step.Step.TheVariants.{Commit, Acquire, Release, Trim}
use Rattle.version_list.specs.declared.step.Reply.{Reply}
use Rattle.version_list.specs.declared.step.Reply.TheVariants.{Version, Ticket, Released, Trimmed, Refused}
use Rattle.version_list.specs.declared.step.Done.{Done}
use Rattle.version_list.specs.Machine.{State, changed, lacks_room, newest_graph, reply_to, state_after, committed_by, commits_of}
use Rattle.version_list.specs.Timeline.{IsAccepted, IsLegal, replay}

commit_adds : (s : State) (batch : List Entry) → IsAccepted (reply_to s (Commit batch)) → (state_after s (Commit batch)).batches ≡ s.batches ++ batch ∷ []
commit_adds s batch accepted = elim (cases_Bool (misfits (newest_graph s).vertices batch)) [
  | inl outside ↦ absurd (rw (outside) at accepted)
  | inr inside ↦ elim (cases_Bool (lacks_room s 1)) [ inl full ↦ absurd (rw (inside, full) at accepted) | inr room ↦ rw (inside, room) refl ]
]

pub opening_kept : (s : State) (step : Step) (reply : Reply) → (changed s step reply).opening ≡ s.opening
opening_kept s (Commit batch) (Version number) = refl
opening_kept s (Commit batch) (Ticket number version) = refl
opening_kept s (Commit batch) Released = refl
opening_kept s (Commit batch) (Trimmed count) = refl
opening_kept s (Commit batch) (Refused number) = refl
opening_kept s (Acquire which) (Version number) = refl
opening_kept s (Acquire which) (Ticket number version) = refl
opening_kept s (Acquire which) Released = refl
opening_kept s (Acquire which) (Trimmed count) = refl
opening_kept s (Acquire which) (Refused number) = refl
opening_kept s (Release ticket) (Version number) = refl
opening_kept s (Release ticket) (Ticket number version) = refl
opening_kept s (Release ticket) Released = refl
opening_kept s (Release ticket) (Trimmed count) = refl
opening_kept s (Release ticket) (Refused number) = refl
opening_kept s Trim (Version number) = refl
opening_kept s Trim (Ticket number version) = refl
opening_kept s Trim Released = refl
opening_kept s Trim (Trimmed count) = refl
opening_kept s Trim (Refused number) = refl

hold_adds : (s : State) (which : Which) (reply : Reply) → (changed s (Acquire which) reply).batches ≡ s.batches ++ []
hold_adds s which (Version number) = sym (append-nil s.batches)
hold_adds s which (Ticket number version) = sym (append-nil s.batches)
hold_adds s which Released = sym (append-nil s.batches)
hold_adds s which (Trimmed count) = sym (append-nil s.batches)
hold_adds s which (Refused number) = sym (append-nil s.batches)

release_adds : (s : State) (ticket : ℕ) (reply : Reply) → (changed s (Release ticket) reply).batches ≡ s.batches ++ []
release_adds s ticket (Version number) = sym (append-nil s.batches)
release_adds s ticket (Ticket number version) = sym (append-nil s.batches)
release_adds s ticket Released = sym (append-nil s.batches)
release_adds s ticket (Trimmed count) = sym (append-nil s.batches)
release_adds s ticket (Refused number) = sym (append-nil s.batches)

trim_adds : (s : State) (reply : Reply) → (changed s Trim reply).batches ≡ s.batches ++ []
trim_adds s (Version number) = sym (append-nil s.batches)
trim_adds s (Ticket number version) = sym (append-nil s.batches)
trim_adds s Released = sym (append-nil s.batches)
trim_adds s (Trimmed count) = sym (append-nil s.batches)
trim_adds s (Refused number) = sym (append-nil s.batches)

pub step_adds : (s : State) (step : Step) → IsAccepted (reply_to s step) → (state_after s step).batches ≡ s.batches ++ committed_by step
step_adds s (Commit batch) accepted = commit_adds s batch accepted
step_adds s (Acquire which) accepted = hold_adds s which (reply_to s (Acquire which))
step_adds s (Release ticket) accepted = release_adds s ticket (reply_to s (Release ticket))
step_adds s Trim accepted = trim_adds s (reply_to s Trim)

-- the batches at the end of a legal history are those before it, and those that it commits
pub replay_commits : (s : State) (history : List Done) → IsLegal s history → (replay s history).batches ≡ s.batches ++ commits_of history
replay_commits s [] legal = sym (append-nil s.batches)
replay_commits s (done ∷ history) legal =
    let accepted : IsAccepted (reply_to s done.step) = subst IsAccepted (sym legal.0) legal.1 in
    replay_commits (state_after s done.step) history legal.2 ∙ ap (λ bs. bs ++ commits_of history) (step_adds s done.step accepted)
    ∙ append_assoc s.batches (committed_by done.step) (commits_of history)

-- no step changes the graph of version 0
pub replay_opening : (s : State) (history : List Done) → (replay s history).opening ≡ s.opening
replay_opening s [] = refl
replay_opening s (done ∷ history) = replay_opening (state_after s done.step) history ∙ opening_kept s done.step (reply_to s done.step)

-- the commits of a longer history begin with those of a beginning of it
pub commits_append : (history more : List Done) → commits_of (history ++ more) ≡ commits_of history ++ commits_of more
commits_append [] more = refl
commits_append (done ∷ history) more = ap (λ bs. committed_by done.step ++ bs) (commits_append history more) ∙ sym (append_assoc (committed_by done.step) (commits_of history) (commits_of more))
