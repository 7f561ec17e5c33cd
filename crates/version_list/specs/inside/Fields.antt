-- Fields of versions: the state and the timeline that they mean, and what is true of them; the invariant of `Versions`.
use Rattle.std.specs.Prelude.{◌≡◌, ◌+◌, ◌≤◌, length, vec_capacity}
use Rattle.tree_batch.specs.Digraph.{IsDigraph}
use Rattle.version_list.specs.declared.versions.Versions.TheInside.{Inside}
use Rattle.version_list.specs.Machine.{State, newest_number, newest_graph, version_graph}
use Rattle.version_list.specs.Timeline.{Timeline, IsLegal, replay}
use Rattle.version_list.specs.inside.Held.{Holds, AreTickets, HasRoom}

-- the state in which the history begins
abbrev pub base : Inside → State
base a = a.base.state

-- the timeline that the fields mean
abbrev pub timeline : Inside → Timeline
timeline a = record { base = base a; history = a.history.items; state = replay (base a) a.history.items; reserved = a.reserved }

-- the fields are those of the state, and memory is kept for the release of each open ticket, and for what is reserved beside: with two entries room for a
-- ticket
pub record Shows (a : Inside) (s : State) : Type 0 where
  pub number : a.number ≡ newest_number s
  pub newest : a.newest ≡ newest_graph s
  pub given : a.given ≡ s.given
  pub held : Holds a.held s.open_tickets (version_graph s)
  pub tickets : AreTickets s
  pub used : s.used ≡ length a.history.items
  pub room : s.room ≡ a.room
  pub within_room : a.room ≤ 16777216
  pub steps : a.steps ≡ s.steps
  pub few : a.number + a.given ≤ a.steps
  pub counted : a.steps + length s.open_tickets ≤ 18446744073709551615
  pub fits : length a.history.items + length s.open_tickets ≤ a.room
  pub reserved : length a.history.items + length s.open_tickets + a.reserved ≤ vec_capacity a.history
  pub ticket_room : 2 ≤ a.reserved → HasRoom a.held

-- the history is legal, it begins at a graph, and the fields are those of its state
pub record IsFaithful (a : Inside) : Type 0 where
  pub legal : IsLegal (base a) a.history.items
  pub begun : IsDigraph (newest_graph (base a))
  pub state : Shows a (timeline a).state
