-- Beside `Refusal`: definitions that no public contract cites.
use Rattle.version_list.specs.declared.error.VersionError.{VersionError}
use Rattle.version_list.specs.declared.error.VersionError.TheVariants as version
use Rattle.shared_graph.specs.declared.error.SharedError.{SharedError}
use Rattle.shared_graph.specs.declared.error.SharedError.TheVariants.{VertexRange, BadChunkSize, NotKept, NotHeld, HistoryFull, NoMemory}

-- a refusal of the versions, as one of the shared graph
abbrev pub from_version : VersionError → SharedError
from_version version.VertexRange = VertexRange
from_version version.BadChunkSize = BadChunkSize
from_version version.NotKept = NotKept
from_version version.NotHeld = NotHeld
from_version version.HistoryFull = HistoryFull
from_version version.NoMemory = NoMemory
