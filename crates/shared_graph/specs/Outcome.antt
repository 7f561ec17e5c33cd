-- Answers of the calls of a shared graph, case by case, and the numbers of its refusals.
use Rattle.std.specs.Prelude.{◌≡◌, ℕ, nat_le, ◌&&◌, Bool, true, false, Result, Ok, Err, List}
use Rattle.tree_batch.specs.Digraph.{is_vertex_count, is_chunk_size}
use Rattle.version_list.specs.declared.step.Step.{Step}
use Rattle.version_list.specs.declared.step.Step.TheVariants.{Release}
use Rattle.version_list.specs.declared.step.Reply.TheVariants.{Released}
use Rattle.version_list.specs.declared.step.Reply.{Reply}
use Rattle.version_list.specs.Machine.{State}
use Rattle.shared_graph.specs.declared.error.SharedError.{SharedError}
use Rattle.shared_graph.specs.declared.error.SharedError.TheVariants.{VertexRange, BadChunkSize, NotKept, NotHeld, HistoryFull, BadSeats, NoMemory}
use Rattle.shared_graph.specs.declared.held.Unreleased.{Unreleased}
use Rattle.shared_graph.specs.Holding.{Hold}
use Rattle.shared_graph.specs.Histories.{ReaderState, fresh_readers, HasMade, IsRefused}
use Rattle.shared_graph.specs.declared.error.LatestError.{LatestError}
use Rattle.shared_graph.specs.declared.error.LatestError.TheVariants as latest

-- a step is refused as the machine refuses it at the end of the history then shown; or memory runs out, and the reader is as it was
abbrev pub Refuses : State → ReaderState → Step → SharedError → ReaderState → Type 0
Refuses base old step NoMemory new = new ≡ old
Refuses base old step VertexRange new = IsRefused base old step 111 new
Refuses base old step BadChunkSize new = IsRefused base old step 103 new
Refuses base old step NotKept new = IsRefused base old step 121 new
Refuses base old step NotHeld new = IsRefused base old step 122 new
Refuses base old step HistoryFull new = IsRefused base old step 123 new
Refuses base old step BadSeats new = ⊥

-- a step is made, with the reply of what the call gives, or refused
abbrev pub Answers : {A : Type 0} → State → ReaderState → Step → (A → Reply) → Result A SharedError → ReaderState → Type 0
Answers base old step reply (Ok x) new = HasMade base old step (reply x) new
Answers base old step reply (Err e) new = Refuses base old step e new

-- whether there may be so many readers
abbrev pub is_reader_count : ℕ → Bool
is_reader_count readers = nat_le 1 readers && nat_le readers 64

-- a shared graph of n vertices in chunks of b is opened, with n readers; or the first refusal
abbrev pub Opens : {A : Type 0} → ℕ → ℕ → ℕ → (A → List ReaderState) → Result A SharedError → Type 0
Opens n b readers passes (Ok x) = (is_vertex_count n ≡ true) × (is_chunk_size b ≡ true) × (is_reader_count readers ≡ true) × (passes x ≡ fresh_readers readers)
Opens n b readers passes (Err VertexRange) = is_vertex_count n ≡ false
Opens n b readers passes (Err BadChunkSize) = (is_vertex_count n ≡ true) × (is_chunk_size b ≡ false)
Opens n b readers passes (Err BadSeats) = (is_vertex_count n ≡ true) × (is_chunk_size b ≡ true) × (is_reader_count readers ≡ false)
Opens n b readers passes (Err NoMemory) = (is_vertex_count n ≡ true) × (is_chunk_size b ≡ true) × (is_reader_count readers ≡ true)
Opens n b readers passes (Err NotKept) = ⊥
Opens n b readers passes (Err NotHeld) = ⊥
Opens n b readers passes (Err HistoryFull) = ⊥

-- a release is made, or refused as the machine refuses it, and then the held version comes back
abbrev pub AnswersRelease : {A J : Type 0} → State → ReaderState → Hold → Result A (Unreleased J) → ReaderState → Type 0
AnswersRelease base old hold (Ok x) new = HasMade base old (Release hold.ticket) Released new
AnswersRelease base old hold (Err u) new = (u.held ≡ hold) × Refuses base old (Release hold.ticket) u.error new

-- the number of a refusal
abbrev pub number_of : SharedError → ℕ
number_of VertexRange = 111
number_of BadChunkSize = 103
number_of NotKept = 121
number_of NotHeld = 122
number_of HistoryFull = 123
number_of BadSeats = 124
number_of NoMemory = 900

-- the number of a refusal of the newest version
abbrev pub latest_number_of : LatestError → ℕ
latest_number_of latest.Closed = 125
latest_number_of latest.NoMemory = 900
