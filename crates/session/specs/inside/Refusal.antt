-- Beside `Refusal`: definitions that no public contract cites.
use Rattle.version_list.specs.declared.error.VersionError.{VersionError}
use Rattle.version_list.specs.declared.error.VersionError.TheVariants as versions
use Rattle.session.specs.declared.error.SessionError.{SessionError}
use Rattle.session.specs.declared.error.SessionError.TheVariants.{VertexRange, BadChunkSize, NotKept, NotHeld, HistoryFull, NoMemory}

-- a refusal of the versions, as one of the session
abbrev pub of_versions : VersionError → SessionError
of_versions versions.VertexRange = VertexRange
of_versions versions.BadChunkSize = BadChunkSize
of_versions versions.NotKept = NotKept
of_versions versions.NotHeld = NotHeld
of_versions versions.HistoryFull = HistoryFull
of_versions versions.NoMemory = NoMemory
