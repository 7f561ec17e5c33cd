-- The state under the lock: the versions and the log.
use Rattle.std.specs.Prelude.{ℕ, ◌≡◌, ◌<◌, List, ◌++◌, length, slice_index}
use Rattle.version_list.specs.Machine.{State}
use Rattle.version_list.specs.Timeline.{Timeline}
use Rattle.version_list.specs.declared.error.VersionError.{VersionError}
use Rattle.version_list.specs.declared.error.VersionError.TheVariants.{VertexRange, BadChunkSize, NotKept, NotHeld, HistoryFull, NoMemory}
use Rattle.shared_graph.specs.Histories.{ReaderState, Shows, steps_of, own, state_at}
use Rattle.shared_graph.specs.declared.entry.Entry.{Entry}

-- the versions have the last entries of this history, those since the last trim, begin in its replay up to these, and are in its replay
pub record IsTimelineOf (base : State) (log : List Entry) (t : Timeline) : Type 0 where
  pub earlier : List Entry
  pub recent : List Entry
  pub parts : log ≡ earlier ++ recent
  pub base_is : t.base ≡ state_at base earlier
  pub history : t.history ≡ steps_of recent
  pub state : t.state ≡ state_at base log

-- each count is that of a reader's entries
abbrev pub AreCounts : List Entry → List ℕ → Type 0
AreCounts log counts = (reader : ℕ) → reader < length counts → slice_index counts reader ≡ length (own reader log)

-- a reader shows this history, at whose end a step is refused; if memory ran out it is as it was
abbrev pub ShowsRefusal : State → VersionError → ReaderState → List Entry → ReaderState → Type 0
ShowsRefusal base NoMemory old log new = new ≡ old
ShowsRefusal base VertexRange old log new = Shows base old new × (new.shown ≡ log)
ShowsRefusal base BadChunkSize old log new = Shows base old new × (new.shown ≡ log)
ShowsRefusal base NotKept old log new = Shows base old new × (new.shown ≡ log)
ShowsRefusal base NotHeld old log new = Shows base old new × (new.shown ≡ log)
ShowsRefusal base HistoryFull old log new = Shows base old new × (new.shown ≡ log)
