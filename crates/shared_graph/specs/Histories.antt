-- Histories of a shared graph: the accepted steps in order, each with its reply and the reader that made it; and readers, each with the
-- history that it shows.
use Rattle.std.specs.Prelude.{[], ◌≡◌, ℕ, ◌≤◌, ◌==◌, List, length, map, take, zero, suc, ◌∷◌, ◌++◌}
use Rattle.std.specs.List.{filter}
use mathlib.Core.List.{IsPrefix}
use Rattle.tree_batch.specs.declared.batch.Entry.{Entry as Change}
use Rattle.tree_batch.specs.Digraph.{Digraph, empty_graph, graph_through}
use Rattle.version_list.specs.declared.step.Step.{Step}
use Rattle.version_list.specs.declared.step.Reply.{Reply}
use Rattle.version_list.specs.declared.step.Done.{Done}
use Rattle.version_list.specs.Machine.{State, newest_number, version_graph, reply_to, commits_of}
use Rattle.version_list.specs.Timeline.{replay, IsLegal}
use Rattle.version_list.specs.declared.step.Reply.TheVariants.{Refused}
use Rattle.shared_graph.specs.declared.entry.Entry.{Entry}

-- a step that this reader made
abbrev pub history_entry : ℕ → Step → Reply → Entry
history_entry reader step reply = record { by = reader; done = record { step = step; reply = reply } }

-- the steps without their readers
abbrev pub steps_of : List Entry → List Done
steps_of log = map (λ e. e.done) log

-- the batches that were committed, in order
abbrev pub batches_of : List Entry → List (List Change)
batches_of log = commits_of (steps_of log)

-- n vertices without edges, and all batches of the history, one after another
abbrev pub fold_of : ℕ → List Entry → Digraph
fold_of n log = graph_through (empty_graph n) (batches_of log)

-- n vertices without edges, and the first k batches of the history, one after another
abbrev pub fold_of_first : ℕ → List Entry → ℕ → Digraph
fold_of_first n log k = graph_through (empty_graph n) (take k (batches_of log))

-- the history has a version of this number, and this is its graph: that of the batches up to it
pub record IsVersionOf (n : ℕ) (log : List Entry) (number : ℕ) (graph : Digraph) : Type 0 where
  pub made : number ≤ length (batches_of log)
  pub graph_is : graph ≡ fold_of_first n log number

-- the entries that this reader made
abbrev pub own : ℕ → List Entry → List Entry
own reader log = filter (λ e. e.by == reader) log

-- the machine's state at the end of a history that began in base
abbrev pub state_at : State → List Entry → State
state_at base log = replay base (steps_of log)

-- the number of the newest version, and its graph: all batches, folded
pub record IsNewest (s : State) (number : ℕ) (graph : Digraph) : Type 0 where
  pub number_is : number ≡ newest_number s
  pub graph_is : graph ≡ version_graph s number

-- a reader: its number, the history that it shows, and the history that it showed after its last accepted step
pub record ReaderState : Type 0 where
  pub number : ℕ
  pub shown : List Entry
  pub last : List Entry

-- a reader that has shown nothing
abbrev pub fresh_reader : ℕ → ReaderState
fresh_reader number = record { number = number; shown = []; last = [] }

-- the readers 0 to n - 1, which have shown nothing
abbrev pub fresh_readers : ℕ → List ReaderState
fresh_readers zero = []
fresh_readers (suc n) = fresh_readers n ++ fresh_reader n ∷ []

-- the reader made the step: the history shown extends the one before and ends in this step with this reply, and the reader's own entries in it are those after
-- its last accepted step, and this one
pub record HasMade (base : State) (old : ReaderState) (step : Step) (reply : Reply) (new : ReaderState) : Type 0 where
  pub number : new.number ≡ old.number
  pub between : List Entry
  pub shown : new.shown ≡ (old.shown ++ between) ++ history_entry old.number step reply ∷ []
  pub own_entries : own old.number new.shown ≡ own old.number old.last ++ history_entry old.number step reply ∷ []
  pub last : new.last ≡ new.shown
  pub legal : IsLegal base (steps_of new.shown)

-- the history shown extends the one before, and the reader made no step
pub record Shows (base : State) (old new : ReaderState) : Type 0 where
  pub number : new.number ≡ old.number
  pub shown : IsPrefix old.shown new.shown
  pub last : new.last ≡ old.last
  pub legal : IsLegal base (steps_of new.shown)

-- the machine refuses the step with this number at the end of the history shown, which extends the one before
pub record IsRefused (base : State) (old : ReaderState) (step : Step) (number : ℕ) (new : ReaderState) : Type 0 where
  pub shows : Shows base old new
  pub is_answer : reply_to (state_at base new.shown) step ≡ Refused number
