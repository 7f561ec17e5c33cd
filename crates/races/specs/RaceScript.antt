-- Scripts of races: a text as the opening and the batches of one, and which are refused.
use Rattle.std.specs.Prelude.{◌≡◌, ℕ, List, [], ◌∷◌, ◌++◌, Option, Some, None, Result, Ok, Err, true, ◌+◌, ◌⊎◌}
use Rattle.std.specs.Option.{option_map}
use Rattle.tree_batch.specs.declared.batch.Entry.{Entry, Entry as Change}
use Rattle.tree_batch.specs.Digraph.{is_vertex_count, is_chunk_size}
use Rattle.tree_batch.specs.declared.batch.Entry.TheVariants as entry
use Rattle.version_list.specs.Machine.{State, opened}
use Rattle.shared_graph.specs.Histories.{ReaderState, fresh_reader}
use Rattle.shared_graph.specs.Outcome.{Opens, is_reader_count}
use Rattle.crew.specs.Outcome.{AreWorkers}
use Rattle.snapshot_runs.specs.declared.error.LatestRunError.{LatestRunError}
use Rattle.snapshot_runs.specs.declared.error.LatestRunError.TheVariants as run
use Rattle.scripts.specs.declared.commands.Command.{Command}
use Rattle.scripts.specs.Commands.{command_of, lines_of}
use Rattle.scripts.specs.declared.commands.Command.TheVariants as command
use Rattle.races.specs.declared.error.RaceScriptError.{RaceScriptError}
use Rattle.races.specs.declared.error.RaceScriptError.TheVariants.{NoRace, NoMemory}
use Rattle.races.specs.declared.reading.RaceScript.{RaceScript}
use Rattle.races.specs.declared.outcomes.CommitReply.{CommitReply}
use Rattle.races.specs.Race.{AreAnswered}
use Rattle.races.specs.declared.error.RaceError.{RaceError}
use Rattle.races.specs.declared.error.RaceError.TheVariants.{NotOpened, NotRun}

-- a number of vertices, a chunk size, and the batches to commit, in order
pub record Order : Type 0 where
  pub vertices : ℕ
  pub chunk_size : ℕ
  pub batches : List (List Entry)

-- a line `add`, `del` or `grow` adds an entry to those that are pending, and `commit` makes a batch of them; no other line may be here
abbrev pub after_change : Option Command → List Entry → (List Entry → Option (List (List Entry))) → Option (List (List Entry))
after_change (Some (command.Add source destination weight)) pending rest = rest (pending ++ entry.Add source destination weight ∷ [])
after_change (Some (command.Remove source destination)) pending rest = rest (pending ++ entry.Remove source destination ∷ [])
after_change (Some (command.Grow vertices)) pending rest = rest (pending ++ entry.Grow vertices ∷ [])
after_change (Some command.Commit) pending rest = option_map (λ batches. pending ∷ batches) (rest [])
after_change _ pending rest = None

-- the batches of lines, after entries that are pending; empty lines are passed over, and entries after the last commit are dropped
abbrev pub batches_in : List Entry → List (List ℕ) → Option (List (List Entry))
batches_in pending [] = Some []
batches_in pending ([] ∷ lines) = batches_in pending lines
batches_in pending ((b ∷ bytes) ∷ lines) = after_change (command_of (b ∷ bytes)) pending (λ entries. batches_in entries lines)

-- an order of these numbers and batches
abbrev pub order : ℕ → ℕ → List (List Entry) → Order
order vertices chunk_size batches = record { vertices = vertices; chunk_size = chunk_size; batches = batches }

-- the line `vertices`, and then changes
abbrev pub after_opening : Option Command → List (List ℕ) → Option Order
after_opening (Some (command.Vertices vertices chunk_size)) lines = option_map (order vertices chunk_size) (batches_in [] lines)
after_opening _ lines = None

-- the order that lines are; empty ones are passed over
abbrev pub order_in : List (List ℕ) → Option Order
order_in [] = None
order_in ([] ∷ lines) = order_in lines
order_in ((b ∷ bytes) ∷ lines) = after_opening (command_of (b ∷ bytes)) lines

-- the order that a text is
abbrev pub order_of : List ℕ → Option Order
order_of text = order_in (lines_of text)

-- the order of a script that was read
abbrev pub order_by : RaceScript → Order
order_by script = order script.vertices script.chunk_size script.batches.items

-- the text was read as the script of a race, or it is none
abbrev pub ReadsScript : List ℕ → Result RaceScript RaceScriptError → Type 0
ReadsScript text (Ok script) = order_of text ≡ Some (order_by script)
ReadsScript text (Err NoRace) = order_of text ≡ None
ReadsScript text (Err NoMemory) = Unit {0}

-- one reader gave these batches to be committed, in order, and each was answered
pub record AllAnswered (base : State) (batches : List (List Change)) : Type 0 where
  pub writer : ℕ
  pub replies : List CommitReply
  pub after : ReaderState
  pub answered : AreAnswered base (fresh_reader writer) batches replies after

-- a program is not run: the number of workers is none, or nothing is published, or memory ran out
abbrev pub RefusesRun : ℕ → LatestRunError → Type 0
RefusesRun workers run.BadWorkers = ¬ AreWorkers workers
RefusesRun workers run.Closed = Unit {0}
RefusesRun workers run.NoMemory = Unit {0}

-- each batch is answered, and a program is not run; or memory ran out
abbrev pub RefusesRunAfter : State → List (List Change) → ℕ → LatestRunError → Type 0
RefusesRunAfter base batches workers run.NoMemory = Unit {0}
RefusesRunAfter base batches workers error = AllAnswered base batches × RefusesRun workers error

-- on a graph that is open
abbrev pub RefusesOnGraph : State → List (List Change) → ℕ → RaceError → Type 0
RefusesOnGraph base batches workers (NotOpened error) = ⊥
RefusesOnGraph base batches workers (NotRun error) = RefusesRunAfter base batches workers error

-- the graph is not opened
abbrev pub RefusesOpening : ℕ → ℕ → ℕ → RaceError → Type 0
RefusesOpening n b readers (NotOpened error) = Opens {A = Unit {0}} n b readers (λ _. []) (Err error)
RefusesOpening n b readers (NotRun error) = ⊥

-- a graph of n vertices in chunks of b may have so many readers
abbrev pub MayOpen : ℕ → ℕ → ℕ → Type 0
MayOpen n b readers = (is_vertex_count n ≡ true) × (is_chunk_size b ≡ true) × (is_reader_count readers ≡ true)

-- there is no race of n programs: the graph, with a reader more, is not opened; or a program is not run on it
abbrev pub RefusesRace : ℕ → ℕ → ℕ → List (List Change) → ℕ → ℕ → RaceError → Type 0
RefusesRace n b room batches programs workers error =
    RefusesOpening n b (programs + 1) error ⊎ (MayOpen n b (programs + 1) × RefusesOnGraph (opened n room) batches workers error)
