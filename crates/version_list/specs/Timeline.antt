-- Histories of accepted steps, and what versions are to a contract.
use Rattle.std.specs.Prelude.{[], ◌≡◌, ℕ, ◌<◌, true, false, Result, Ok, Err, List, ◌∷◌, ◌++◌, length, take}
use Rattle.tree_batch.specs.Digraph.{is_vertex_count, is_chunk_size}
use Rattle.version_list.specs.declared.step.Step.{Step}
use Rattle.version_list.specs.declared.step.Reply.{Reply}
use Rattle.version_list.specs.declared.step.Reply.TheVariants.{Version, Ticket, Released, Trimmed, Refused}
use Rattle.version_list.specs.declared.step.Done.{Done}
use Rattle.version_list.specs.declared.error.VersionError.{VersionError}
use Rattle.version_list.specs.declared.error.VersionError.TheVariants.{NoMemory, VertexRange, BadChunkSize, NotKept, NotHeld, HistoryFull}
use Rattle.version_list.specs.Machine.{State, opened, reply_to, state_after}
use Rattle.version_list.specs.Refusal.{number_of}

-- the reply is no refusal
abbrev pub IsAccepted : Reply → Type 0
IsAccepted (Version number) = Unit {0}
IsAccepted (Ticket number version) = Unit {0}
IsAccepted Released = Unit {0}
IsAccepted (Trimmed count) = Unit {0}
IsAccepted (Refused number) = ⊥

-- from the state on, each entry is a step that was accepted, with the reply that the machine gives at that point
abbrev pub IsLegal : State → List Done → Type 0
IsLegal s [] = Unit {0}
IsLegal s (done ∷ history) = (reply_to s done.step ≡ done.reply) × IsAccepted done.reply × IsLegal (state_after s done.step) history

-- the state at the end of a history
abbrev pub replay : State → List Done → State
replay s [] = s
replay s (done ∷ history) = replay (state_after s done.step) history

-- the base, in which the history begins, at the opening or after the last trim; the history since, the state now, and for how many entries beside those of
-- releases memory is reserved
pub record Timeline : Type 0 where
  pub base : State
  pub history : List Done
  pub state : State
  pub reserved : ℕ

-- a timeline at its beginning
abbrev pub beginning : State → Timeline
beginning s = record { base = s; history = []; state = s; reserved = 0 }

-- the machine answers the step, which is no trim, so and accepts it, and the new timeline is the old one with the step at its end
pub record Accepts (old : Timeline) (step : Step) (reply : Reply) (new : Timeline) : Type 0 where
  pub is_answer : reply_to old.state step ≡ reply
  pub accepted : IsAccepted reply
  pub base : new.base ≡ old.base
  pub history : new.history ≡ old.history ++ record { step = step; reply = reply } ∷ []
  pub state : new.state ≡ state_after old.state step
  pub reserved : new.reserved ≡ 0

-- the machine refuses the step with the error's number, and nothing is changed
pub record Refuses (old : Timeline) (step : Step) (error : VersionError) (new : Timeline) : Type 0 where
  pub is_answer : reply_to old.state step ≡ Refused (number_of error)
  pub unchanged : new ≡ old

-- a call answers a step as the machine does, where reply is the reply of what it gives; only a step that the machine accepts may lack memory, and then nothing
-- is changed
abbrev pub Answers : {A : Type 0} → Timeline → Step → (A → Reply) → Result A VersionError → Timeline → Type 0
Answers old step reply (Ok x) new = Accepts old step (reply x) new
Answers old step reply (Err NoMemory) new = IsAccepted (reply_to old.state step) × (new ≡ old)
Answers old step reply (Err VertexRange) new = Refuses old step VertexRange new
Answers old step reply (Err BadChunkSize) new = Refuses old step BadChunkSize new
Answers old step reply (Err NotKept) new = Refuses old step NotKept new
Answers old step reply (Err NotHeld) new = Refuses old step NotHeld new
Answers old step reply (Err HistoryFull) new = Refuses old step HistoryFull new

-- the timeline after a step that was answered so; after a trim it begins anew
abbrev pub with_reply : Timeline → Step → Reply → Timeline
with_reply t step (Refused number) = t
with_reply t step (Trimmed count) = beginning (state_after t.state step)
with_reply t step reply = record {
  base = t.base;
  history = t.history ++ record { step = step; reply = reply } ∷ [];
  state =
      state_after t.state step;
  reserved = 0;
}

-- what the steps are answered, one after another
abbrev pub replies_to : State → List Step → List Reply
replies_to s [] = []
replies_to s (step ∷ steps) = reply_to s step ∷ replies_to (state_after s step) steps

-- the timeline after a step: one that is accepted is at the end of the history, with its reply; after a trim the history has no entries
abbrev pub advanced : Timeline → Step → Timeline
advanced t step = with_reply t step (reply_to t.state step)

-- the timeline after steps, one after another
abbrev pub advanced_through : Timeline → List Step → Timeline
advanced_through t [] = t
advanced_through t (step ∷ steps) = advanced_through (advanced t step) steps

-- each step is answered and taken in order, where replies is the list that the call gives; if memory runs out it may stop before a step, after those in
-- front of it
abbrev pub Runs : {A : Type 0} → Timeline → List Step → (A → List Reply) → Result A VersionError → Timeline → Type 0
Runs old steps replies (Ok x) new = (replies x ≡ replies_to old.state steps) × (new ≡ advanced_through old steps)
Runs old steps replies (Err NoMemory) new = (k : ℕ) × (k < length steps) × (new ≡ advanced_through old (take k steps))
Runs old steps replies (Err VertexRange) new = ⊥
Runs old steps replies (Err BadChunkSize) new = ⊥
Runs old steps replies (Err NotKept) new = ⊥
Runs old steps replies (Err NotHeld) new = ⊥
Runs old steps replies (Err HistoryFull) new = ⊥

-- the timeline of newly opened versions, or the first refusal
abbrev pub Opens : ℕ → ℕ → ℕ → Result Timeline VersionError → Type 0
Opens n b room (Ok v) = (is_vertex_count n ≡ true) × (is_chunk_size b ≡ true) × (v ≡ beginning (opened n room))
Opens n b room (Err VertexRange) = is_vertex_count n ≡ false
Opens n b room (Err BadChunkSize) = (is_vertex_count n ≡ true) × (is_chunk_size b ≡ false)
Opens n b room (Err NotKept) = ⊥
Opens n b room (Err NotHeld) = ⊥
Opens n b room (Err HistoryFull) = ⊥
Opens n b room (Err NoMemory) = (is_vertex_count n ≡ true) × (is_chunk_size b ≡ true)
