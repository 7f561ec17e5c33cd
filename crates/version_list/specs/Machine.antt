-- The version machine: what each step replies in a state, the state after it, and the batches that are committed.
use Rattle.std.specs.Prelude.{ℕ, ◌+◌, ◌==◌, nat_lt, min, Bool, not, ◌||◌, if◌then◌else◌, Option, Some, None, List, [], ◌∷◌, ◌++◌, length, take}
use Rattle.std.specs.Option.{option_map}
use Rattle.std.specs.List.{filter, list_any}
use Rattle.tree_batch.specs.declared.batch.Entry.{Entry}
use Rattle.tree_batch.specs.Edge.{misfits}
use Rattle.tree_batch.specs.Digraph.{Digraph, empty_graph, graph_through}
use Rattle.version_list.specs.declared.step.Which.{Which}
use Rattle.version_list.specs.declared.step.Which.TheVariants.{Newest, At}
use Rattle.version_list.specs.declared.step.Step.{Step}
use Rattle.version_list.specs.declared.step.Step.TheVariants.{Commit, Acquire, Release, Trim}
use Rattle.version_list.specs.declared.step.Reply.{Reply}
use Rattle.version_list.specs.declared.step.Reply.TheVariants.{Version, Ticket, Released, Trimmed, Refused}
use Rattle.version_list.specs.declared.step.Done.{Done}

-- a ticket that is open: its number, and the number of the version that it holds
pub record OpenTicket : Type 0 where
  pub number : ℕ
  pub version : ℕ

-- the graph of version 0, the batches since, the open tickets, how many tickets were given, how many history entries are used since the opening or the last
-- trim, for how many there is room, and how many steps were accepted since the opening
pub record State : Type 0 where
  pub opening : Digraph
  pub batches : List (List Entry)
  pub open_tickets : List OpenTicket
  pub given : ℕ
  pub used : ℕ
  pub room : ℕ
  pub steps : ℕ

-- a graph of n vertices without edges as version 0, with room for at most 16,777,216 entries
abbrev pub opened : ℕ → ℕ → State
opened n room = record { opening = empty_graph n; batches = []; open_tickets = []; given = 0; used = 0; room = min room 16777216; steps = 0 }

-- the state after a step that was answered so; a refusal changes nothing
abbrev pub changed : State → Step → Reply → State
changed s (Commit batch) (Version number) = record s { batches = s.batches ++ batch ∷ []; used = s.used + 1; steps = s.steps + 1 }
changed s (Acquire which) (Ticket number version) =
    record s { open_tickets = s.open_tickets ++ record { number = number; version = version } ∷ []; given = number; used = s.used + 1; steps = s.steps + 1 }
changed s (Release number) Released = record s { open_tickets = filter (λ t. not (t.number == number)) s.open_tickets; used = s.used + 1; steps = s.steps + 1 }
changed s Trim (Trimmed count) = record s { used = 0; steps = s.steps + 1 }
changed s step reply = s

-- the number of the newest version
abbrev pub newest_number : State → ℕ
newest_number s = length s.batches

-- the graph of the newest version: the opening's, taken through the batches
abbrev pub newest_graph : State → Digraph
newest_graph s = graph_through s.opening s.batches

-- the graph of version k: the opening's, taken through the first k batches
abbrev pub version_graph : State → ℕ → Digraph
version_graph s k = graph_through s.opening (take k s.batches)

-- the number of the version that is asked for
abbrev pub number_asked : State → Which → ℕ
number_asked s Newest = newest_number s
number_asked s (At k) = k

-- whether the version is kept: it is the newest, or an open ticket holds it
abbrev pub is_kept : State → ℕ → Bool
is_kept s k = (k == newest_number s) || list_any (λ t. t.version == k) s.open_tickets

-- the graph of version k, where it is kept
abbrev pub kept_graph : State → ℕ → Option Digraph
kept_graph s k = if is_kept s k then Some (version_graph s k) else None

-- whether the ticket is open
abbrev pub is_open : State → ℕ → Bool
is_open s number = list_any (λ t. t.number == number) s.open_tickets

-- the number of the version that the ticket of this number holds, where it is open
abbrev pub ticket_version : List OpenTicket → ℕ → Option ℕ
ticket_version [] number = None
ticket_version (t ∷ ts) number = if t.number == number then Some t.version else ticket_version ts number

-- the graph of the version that a ticket holds, where it is open
abbrev pub ticket_graph : State → ℕ → Option Digraph
ticket_graph s number = option_map (version_graph s) (ticket_version s.open_tickets number)

-- whether so many more steps, beside the release of each open ticket, are more than can be counted: 2^64 - 1 in all
abbrev pub lacks_steps : State → ℕ → Bool
lacks_steps s more = nat_lt 18446744073709551615 (s.steps + length s.open_tickets + more)

-- whether so many more entries, beside one for the release of each open ticket, are more than there is room for, or more steps than can be counted
abbrev pub lacks_room : State → ℕ → Bool
lacks_room s more = nat_lt s.room (s.used + length s.open_tickets + more) || lacks_steps s more

-- what a step is answered
abbrev pub reply_to : State → Step → Reply
reply_to s (Commit batch) =
    if misfits (newest_graph s).vertices batch then Refused 111
    else (if lacks_room s 1 then Refused 123
    else Version (newest_number s + 1))
reply_to s (Acquire which) =
    if not (is_kept s (number_asked s which)) then Refused 121
    else (if lacks_room s 2 then Refused 123
    else Ticket (s.given + 1) (number_asked s which))
reply_to s (Release number) = if is_open s number then Released else Refused 122
reply_to s Trim = if lacks_steps s 1 then Refused 123 else Trimmed s.used

-- the state after a step
abbrev pub state_after : State → Step → State
state_after s step = changed s step (reply_to s step)

-- the batch that a step commits
abbrev pub committed_by : Step → List (List Entry)
committed_by (Commit batch) = batch ∷ []
committed_by (Acquire which) = []
committed_by (Release number) = []
committed_by Trim = []

-- the batches that the steps of a history commit, in order
abbrev pub commits_of : List Done → List (List Entry)
commits_of [] = []
commits_of (done ∷ history) = committed_by done.step ++ commits_of history
