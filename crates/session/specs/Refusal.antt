-- The numbers by which refusals of sessions are known.
use Rattle.std.specs.Prelude.{ℕ}
use Rattle.session.specs.declared.error.SessionError.{SessionError}
use Rattle.session.specs.declared.error.SessionError.TheVariants.{VertexRange, BadChunkSize, NotKept, NotHeld, HistoryFull, NoProgram, NoJob, NoMemory}

-- the number of a refusal
abbrev pub number_of : SessionError → ℕ
number_of VertexRange = 111
number_of BadChunkSize = 103
number_of NotKept = 121
number_of NotHeld = 122
number_of HistoryFull = 123
number_of NoProgram = 412
number_of NoJob = 413
number_of NoMemory = 900
