-- Trims: the entries of a history are dropped, and it begins anew in the present state.
use Rattle.std.specs.Prelude.{◌≡◌, ℕ, ◌+◌, Result, Ok, Err, List, [], ◌∷◌, length}
use Rattle.version_list.specs.declared.step.Step.{Step}
use Rattle.version_list.specs.declared.step.Step.TheVariants.{Commit, Acquire, Release, Trim}
use Rattle.version_list.specs.declared.step.Reply.TheVariants.{Trimmed, Refused}
use Rattle.version_list.specs.declared.step.Done.{Done}
use Rattle.version_list.specs.declared.error.VersionError.{VersionError}
use Rattle.version_list.specs.declared.error.VersionError.TheVariants.{NoMemory, VertexRange, BadChunkSize, NotKept, NotHeld, HistoryFull}
use Rattle.version_list.specs.declared.prepared.PreparedTrim.{PreparedTrim}
use Rattle.version_list.specs.Machine.{reply_to, state_after}
use Rattle.version_list.specs.Timeline.{Timeline, Refuses, beginning}

-- the trim is accepted and answered so many entries, which are those of the history; the new history has none and begins in the state after the trim, which has
-- all versions and tickets of the state before
pub record IsTrimmed (old : Timeline) (dropped : ℕ) (new : Timeline) : Type 0 where
  pub is_answer : reply_to old.state Trim ≡ Trimmed dropped
  pub dropped_all : dropped ≡ length old.history
  pub timeline : new ≡ beginning (state_after old.state Trim)
  pub kept : new.state ≡ record old.state { used = 0; steps = old.state.steps + 1 }

-- a trim is made, or refused as the machine refuses it, and then nothing is changed
abbrev pub Trims : Timeline → Result ℕ VersionError → Timeline → Type 0
Trims old (Ok dropped) new = IsTrimmed old dropped new
Trims old (Err HistoryFull) new = Refuses old Trim HistoryFull new
Trims old (Err VertexRange) new = ⊥
Trims old (Err BadChunkSize) new = ⊥
Trims old (Err NotKept) new = ⊥
Trims old (Err NotHeld) new = ⊥
Trims old (Err NoMemory) new = ⊥

-- a trim would be accepted now, and p has what it is answered; or it is refused as the machine refuses it
abbrev pub PreparesTrim : Timeline → Result PreparedTrim VersionError → Type 0
PreparesTrim t (Ok p) = reply_to t.state Trim ≡ Trimmed p.count
PreparesTrim t (Err HistoryFull) = reply_to t.state Trim ≡ Refused 123
PreparesTrim t (Err VertexRange) = ⊥
PreparesTrim t (Err BadChunkSize) = ⊥
PreparesTrim t (Err NotKept) = ⊥
PreparesTrim t (Err NotHeld) = ⊥
PreparesTrim t (Err NoMemory) = ⊥

-- how many entries there are since the last trim after a step, where there were n before
abbrev pub entries_with : ℕ → Step → ℕ
entries_with n (Commit batch) = n + 1
entries_with n (Acquire which) = n + 1
entries_with n (Release number) = n + 1
entries_with n Trim = 0

-- how many entries a history has since its last trim, where there were n at its beginning
abbrev pub entries_since_trim : ℕ → List Done → ℕ
entries_since_trim n [] = n
entries_since_trim n (done ∷ history) = entries_since_trim (entries_with n done.step) history
