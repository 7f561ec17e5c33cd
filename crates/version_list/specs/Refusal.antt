-- The numbers by which refusals are known.
use Rattle.std.specs.Prelude.{ℕ}
use Rattle.version_list.specs.declared.error.VersionError.{VersionError}
use Rattle.version_list.specs.declared.error.VersionError.TheVariants.{VertexRange, BadChunkSize, NotKept, NotHeld, HistoryFull, NoMemory}

-- the number of a refusal
abbrev pub number_of : VersionError → ℕ
number_of VertexRange = 111
number_of BadChunkSize = 103
number_of NotKept = 121
number_of NotHeld = 122
number_of HistoryFull = 123
number_of NoMemory = 900
