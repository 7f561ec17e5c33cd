-- Workers as they start, and what they bring back.
use Rattle.std.specs.Prelude.{◌≡◌, ℕ, ◌+◌, ◌%◌, ◌<◌, ◌≤◌, IfSome, IfOk, Result, List, [], length, slice_index_or}
use Rattle.std.specs.List.{All}
use Rattle.atomic_table.specs.declared.shared.Seat.{Seat}
use Rattle.atomic_table.specs.Seated.{TableId}
use Rattle.crew.specs.declared.worker.StartingWorker.{StartingWorker}
use Rattle.crew.specs.declared.worker.FinishedWorker.{FinishedWorker}
use Rattle.crew.specs.declared.claim_word.ClaimView.{ClaimView}
use Rattle.crew.specs.inside.ClaimWord.{claim_view, times}
use Rattle.crew.specs.inside.Claims.{IsClaimAt, view_of, worker_rights, pieces_at}
use Rattle.crew.specs.inside.Finding.{IsAnswered}
use Rattle.crew.specs.Pieces.{pieces_of}

module _ {S : Type 0} (keeps : S → Type 0) where
  -- a worker that has claimed nothing, whose state, if it has one, is as it is to be
  abbrev pub IsHired : TableId → StartingWorker (Seat (Unit {0}) ClaimView) S → Type 0
  IsHired table job = IsClaimAt table job.turn × (view_of job.turn ≡ claim_view worker_rights [] 0) × IfSome job.state keeps

  -- a worker that found the pieces that it claimed, and claimed until there was none left
  abbrev pub HasClaimed : {T : Type 0} → (ℕ → T → Type 0) → TableId → ℕ → FinishedWorker (Seat (Unit {0}) ClaimView) S T → Type 0
  HasClaimed answers table pieces done = let view = view_of done.turn in
      IsClaimAt table done.turn × (view.rights ≡ worker_rights) × (pieces ≤ view.next) × (length view.claimed ≤ worker_rights)
      × keeps done.state × All (IsAnswered answers pieces) done.found.items × (pieces_of done.found.items ≡ pieces_at pieces view.claimed)

-- P of each index and of what is there
abbrev pub EachAt : {X : Type 0} → (ℕ → X → Type 0) → List X → Type 0
EachAt {X} P xs = (i : ℕ) (x : X) → i < length xs → x ≡ slice_index_or xs i x → P i x

module _ {S : Type 0} (keeps : S → Type 0) where
  -- a worker of so many, whose state, if it has one, is as it is to be
  abbrev pub IsNumbered : ℕ → StartingWorker (Unit {0}) S → Type 0
  IsNumbered workers job = (0 < job.worker) × (job.worker ≤ workers) × IfSome job.state keeps

  -- the workers from the last to the first
  abbrev pub AreNumbered : ℕ → List (StartingWorker (Unit {0}) S) → Type 0
  AreNumbered workers jobs = EachAt (λ i job. (job.worker + i ≡ workers) × IfSome job.state keeps) jobs

  -- a worker that found each of its pieces
  abbrev pub HasEvery : {T : Type 0} → (ℕ → T → Type 0) → ℕ → ℕ → ℕ → FinishedWorker (Unit {0}) S T → Type 0
  HasEvery answers pieces workers worker done = keeps done.state × All (IsAnswered answers pieces) done.found.items
      × ((j : ℕ) → j < pieces → j % workers + 1 ≡ worker → 0 < times (j + 1) (pieces_of done.found.items))

  -- the worker at index i, which found each of its pieces unless it is out of memory
  abbrev pub GivesEvery : {T E : Type 0} → (ℕ → T → Type 0) → ℕ → ℕ → ℕ → Result (FinishedWorker (Unit {0}) S T) E → Type 0
  GivesEvery answers pieces workers i r = (worker : ℕ) → worker + i ≡ workers → IfOk r (HasEvery answers pieces workers worker)

  -- the workers from the last to the first
  abbrev pub HaveEvery : {T E : Type 0} → (ℕ → T → Type 0) → ℕ → ℕ → List (Result (FinishedWorker (Unit {0}) S T) E) → Type 0
  HaveEvery answers pieces workers all = EachAt (GivesEvery answers pieces workers) all
