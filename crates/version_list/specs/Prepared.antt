-- Steps whose memory is taken, and which wait to be finished.
use Rattle.std.specs.Prelude.{◌≡◌, ℕ, ◌+◌, ◌≤◌, List, Result, Ok, Err}
use Rattle.tree_batch.specs.declared.batch.Entry.{Entry}
use Rattle.tree_batch.specs.Digraph.{graph_after}
use Rattle.version_list.specs.declared.step.Step.{Step}
use Rattle.version_list.specs.declared.step.Step.TheVariants.{Commit, Acquire}
use Rattle.version_list.specs.declared.step.Reply.TheVariants.{Version, Ticket}
use Rattle.version_list.specs.declared.step.Which.{Which}
use Rattle.version_list.specs.declared.error.VersionError.{VersionError}
use Rattle.version_list.specs.declared.error.VersionError.TheVariants.{NoMemory, VertexRange, BadChunkSize, NotKept, NotHeld, HistoryFull}
use Rattle.version_list.specs.declared.prepared.Prepared.{Prepared}
use Rattle.version_list.specs.declared.prepared.PreparedAcquire.{PreparedAcquire}
use Rattle.version_list.specs.Machine.{newest_number, version_graph, number_asked, reply_to}
use Rattle.version_list.specs.Timeline.{Timeline, IsAccepted, Refuses}

-- the commit of this batch would be accepted now, p has its entry and the graph that it makes, and memory for the entry is reserved
pub record IsPrepared (t : Timeline) (batch : List Entry) (p : Prepared) : Type 0 where
  pub is_answer : reply_to t.state (Commit batch) ≡ Version (newest_number t.state + 1)
  pub done : p.done ≡ record { step = Commit batch; reply = Version (newest_number t.state + 1) }
  pub number : p.number ≡ newest_number t.state + 1
  pub graph : p.graph ≡ graph_after (version_graph t.state (newest_number t.state)) batch
  pub reserved : 1 ≤ t.reserved

-- the hold of this version would be accepted now, p has its number, ticket and graph, and memory for the entry and for the ticket's release is reserved
pub record IsPreparedAcquire (t : Timeline) (asked : Which) (p : PreparedAcquire) : Type 0 where
  pub is_answer : reply_to t.state (Acquire asked) ≡ Ticket (t.state.given + 1) (number_asked t.state asked)
  pub which : p.which ≡ asked
  pub ticket : p.ticket.number ≡ t.state.given + 1
  pub version : p.version ≡ number_asked t.state asked
  pub made : p.version ≤ newest_number t.state
  pub graph : p.graph ≡ version_graph t.state p.version
  pub kept : p.kept ≡ p.graph
  pub reserved : 2 ≤ t.reserved

-- a step that the machine accepts is prepared, and only memory for n entries more is reserved; or it is refused as the machine refuses it, or memory runs out,
-- and nothing is changed
abbrev pub Prepares : {A : Type 0} → Timeline → Step → ℕ → (Timeline → A → Type 0) → Result A VersionError → Timeline → Type 0
Prepares old step n IsReady (Ok x) new = (new ≡ record old { reserved = n }) × IsReady new x
Prepares old step n IsReady (Err NoMemory) new = IsAccepted (reply_to old.state step) × (new ≡ old)
Prepares old step n IsReady (Err VertexRange) new = Refuses old step VertexRange new
Prepares old step n IsReady (Err BadChunkSize) new = Refuses old step BadChunkSize new
Prepares old step n IsReady (Err NotKept) new = Refuses old step NotKept new
Prepares old step n IsReady (Err NotHeld) new = Refuses old step NotHeld new
Prepares old step n IsReady (Err HistoryFull) new = Refuses old step HistoryFull new
