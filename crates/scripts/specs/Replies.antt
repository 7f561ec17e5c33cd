-- Replies to the lines of a script, one after another, at first with no graph open.
use Rattle.std.specs.Prelude.{ℕ, zero, suc, nat_lt, Bool, false, not, ◌||◌, ◌&&◌, Option, Some, None, if◌then◌else◌, List, [], ◌∷◌, ◌++◌, codes}
use Rattle.std.specs.List.{slice_get}
use Rattle.algorithm_meaning.specs.ProgramTree.{ProgramTree}
use Rattle.algorithm_meaning.specs.Meaning.{meaning}
use Rattle.algorithm_meaning.specs.declared.outcome.Outcome.{Outcome}
use Rattle.tree_batch.specs.declared.batch.Entry.{Entry}
use Rattle.tree_batch.specs.declared.batch.Entry.TheVariants as entry
use Rattle.tree_batch.specs.Digraph.{Digraph, is_vertex_count, is_chunk_size}
use Rattle.version_list.specs.declared.step.Which.{Which}
use Rattle.version_list.specs.declared.step.Which.TheVariants as which
use Rattle.version_list.specs.declared.step.Step.{Step}
use Rattle.version_list.specs.declared.step.Step.TheVariants as step
use Rattle.version_list.specs.declared.step.Reply.{Reply}
use Rattle.version_list.specs.declared.step.Reply.TheVariants as reply
use Rattle.version_list.specs.Machine.{State, opened, reply_to, state_after, newest_number, version_graph, ticket_graph}
use Rattle.scripts.specs.declared.commands.Command.{Command}
use Rattle.scripts.specs.declared.commands.Command.TheVariants as command
use Rattle.scripts.specs.Commands.{command_of, lines_of, ended_lines}
use Rattle.replies.specs.ReplyText.{is_fault, outcome_text, word_line, ticket_line, edges_text}

-- an open graph: its versions, the entries that the next commit takes, and whether some run on it has ended by a fault
pub record OpenState : Type 0 where
  pub versions : State
  pub pending : List Entry
  pub faulted : Bool

-- what a line leaves, and what it is answered
pub record Answer (S : Type 0) : Type 0 where
  pub state : S
  pub text : List ℕ

-- a refusal changes nothing
abbrev pub refused : {S : Type 0} → S → ℕ → Answer S
refused s number = record { state = s; text = word_line (codes "refused") number }

-- a graph is opened
abbrev pub opening : ℕ → ℕ → Answer (Option OpenState)
opening n b =
    if not (is_vertex_count n) then refused None 111
    else (if not (is_chunk_size b) then refused None 103
    else record {
      state = Some (record { versions = opened n 16777216; pending = []; faulted = false });
      text = word_line (codes "open") n;
    })

-- a command while no graph is open
abbrev pub unopened : Command → Answer (Option OpenState)
unopened (command.Vertices n b) = opening n b
unopened _ = refused None 801

-- an entry joins those that are pending
abbrev pub joined : OpenState → Entry → Answer OpenState
joined o e = record {
  state = record { versions = o.versions; pending = o.pending ++ e ∷ []; faulted = o.faulted };
  text = [];
}

-- the line of the reply to a step; `Released` is the reply to a release alone, and no line of a script trims
abbrev pub step_line : Step → Reply → List ℕ
step_line asked (reply.Version number) = word_line (codes "version") number
step_line asked (reply.Ticket ticket version) = ticket_line ticket version
step_line asked (reply.Refused number) = word_line (codes "refused") number
step_line (step.Release ticket) reply.Released = word_line (codes "released") ticket
step_line (step.Acquire asked) reply.Released = []
step_line (step.Commit batch) reply.Released = []
step_line step.Trim reply.Released = []
step_line asked (reply.Trimmed count) = []

-- a step is taken on the versions, and these entries are pending afterwards
abbrev pub stepping : OpenState → Step → List Entry → Answer OpenState
stepping o asked pending = record {
  state = record { versions = state_after o.versions asked; pending = pending; faulted = o.faulted };
  text = step_line asked (reply_to o.versions asked);
}

-- the version that a hold asks for
abbrev pub which_of : Option ℕ → Which
which_of None = which.Newest
which_of (Some k) = which.At k

-- the graph that a command is about: that of the newest version, or of the one that a ticket holds
abbrev pub graph_of : State → Option ℕ → Option Digraph
graph_of v None = Some (version_graph v (newest_number v))
graph_of v (Some ticket) = ticket_graph v ticket

-- the edges of a graph, or the refusal of a ticket that is not open
abbrev pub listing_text : Option Digraph → List ℕ
listing_text None = word_line (codes "refused") 122
listing_text (Some g) = edges_text g.edges

-- the edges of a graph are listed
abbrev pub listing : OpenState → Option Digraph → Answer OpenState
listing o g = record { state = o; text = listing_text g }

-- the program of this number, from 1
abbrev pub program_of : List ProgramTree → ℕ → Option ProgramTree
program_of programs zero = None
program_of programs (suc index) = slice_get programs index

-- whether there may be so many workers
abbrev pub is_worker_count : ℕ → Bool
is_worker_count workers = nat_lt 0 workers && nat_lt workers 65

-- what a program means on a graph
abbrev pub meaning_on : Digraph → ProgramTree → ℕ → Outcome
meaning_on g program turns = meaning program (record { vertices = g.vertices; edges = g.edges }) turns

-- a run is answered by what it shows
abbrev pub ran : OpenState → Outcome → Answer OpenState
ran o outcome = record {
  state = record { versions = o.versions; pending = o.pending; faulted = o.faulted || is_fault outcome.end };
  text = outcome_text outcome;
}

-- a program is run on a graph, where both are there
abbrev pub running : OpenState → (turns workers : ℕ) → Option ProgramTree → Option Digraph → Answer OpenState
running o turns workers None g = refused o 412
running o turns workers (Some program) None = refused o 122
running o turns workers (Some program) (Some g) = if is_worker_count workers then ran o (meaning_on g program turns) else refused o 411

-- a command on an open graph
abbrev pub on_open : List ProgramTree → OpenState → Command → Answer OpenState
on_open programs o (command.Vertices n b) = refused o 801
on_open programs o (command.Add source destination weight) = joined o (entry.Add source destination weight)
on_open programs o (command.Remove source destination) = joined o (entry.Remove source destination)
on_open programs o (command.Grow vertices) = joined o (entry.Grow vertices)
on_open programs o command.Commit = stepping o (step.Commit o.pending) []
on_open programs o (command.Hold version) = stepping o (step.Acquire (which_of version)) o.pending
on_open programs o (command.Release ticket) = stepping o (step.Release ticket) o.pending
on_open programs o (command.Edges ticket) = listing o (graph_of o.versions ticket)
on_open programs o (command.Run program turns workers ticket) = running o turns workers (program_of programs program) (graph_of o.versions ticket)

-- the graph stays open
abbrev pub still_open : Answer OpenState → Answer (Option OpenState)
still_open answer = record { state = Some answer.state; text = answer.text }

-- a line that is a command, or is not, while a graph is open or none is
abbrev pub by_command : List ProgramTree → Option OpenState → Option Command → Answer (Option OpenState)
by_command programs s None = refused s 801
by_command programs None (Some c) = unopened c
by_command programs (Some o) (Some c) = still_open (on_open programs o c)

-- a line without its line feed; an empty one is passed over
abbrev pub answer : List ProgramTree → Option OpenState → List ℕ → Answer (Option OpenState)
answer programs s [] = record { state = s; text = [] }
answer programs s (b ∷ bytes) = by_command programs s (command_of (b ∷ bytes))

-- the replies to lines, one after another
abbrev pub replies_to_lines : List ProgramTree → Option OpenState → List (List ℕ) → List ℕ
replies_to_lines programs s [] = []
replies_to_lines programs s (line ∷ lines) = (answer programs s line).text ++ replies_to_lines programs (answer programs s line).state lines

-- the state after lines
abbrev pub state_after_lines : List ProgramTree → Option OpenState → List (List ℕ) → Option OpenState
state_after_lines programs s [] = s
state_after_lines programs s (line ∷ lines) = state_after_lines programs (answer programs s line).state lines

-- the replies to a script that may run these programs
abbrev pub replies : List ProgramTree → List ℕ → List ℕ
replies programs bytes = replies_to_lines programs None (lines_of bytes)

-- the replies to those of its lines that a line feed has ended
abbrev pub replies_to_ended : List ProgramTree → List ℕ → List ℕ
replies_to_ended programs bytes = replies_to_lines programs None (ended_lines bytes)

-- whether some run has ended by a fault; while no graph is open there was no run
abbrev pub has_faulted : Option OpenState → Bool
has_faulted None = false
has_faulted (Some o) = o.faulted

-- whether some run of a script ends by a fault
abbrev pub faults : List ProgramTree → List ℕ → Bool
faults programs bytes = has_faulted (state_after_lines programs None (lines_of bytes))
