-- Beside `Refusal`: definitions that no public contract cites.
use Rattle.tree_batch.specs.declared.error.GraphError.{GraphError}
use Rattle.tree_batch.specs.declared.error.GraphError.TheVariants as graph
use Rattle.version_list.specs.declared.error.VersionError.{VersionError}
use Rattle.version_list.specs.declared.error.VersionError.TheVariants.{VertexRange, BadChunkSize, NoMemory}

-- a graph's refusal, as one of the versions
abbrev pub from_graph : GraphError → VersionError
from_graph graph.VertexRange = VertexRange
from_graph graph.BadChunkSize = BadChunkSize
from_graph graph.NoMemory = NoMemory
