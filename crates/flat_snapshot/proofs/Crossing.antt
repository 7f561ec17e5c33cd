-- That flats go to other threads.
use denote.Param.Send.{IsSend, IsSync, sendable}
use Rattle.std.proofs.Crossing.{crosses}
use Rattle.vertex_blocks.proofs.Crossing.{block_send, block_sync}
use Rattle.flat_snapshot.specs.contracts.adjacency.Adjacency as adjacency
use Rattle.flat_snapshot.specs.contracts.chunk.Chunk as chunk
use Rattle.flat_snapshot.specs.contracts.flat.Flat as flat

chunk_send : IsSend chunk.the_row
chunk_send = search (sendable, crosses, block_send) depth 12

chunk_sync : IsSync chunk.the_row
chunk_sync = search (sendable, crosses, block_sync) depth 12

adjacency_send : IsSend adjacency.the_row
adjacency_send = search (sendable, crosses, chunk_send, chunk_sync) depth 12

adjacency_sync : IsSync adjacency.the_row
adjacency_sync = search (sendable, crosses, chunk_send, chunk_sync) depth 12

pub flat_send : IsSend flat.the_row
flat_send = search (sendable, adjacency_send) depth 12

pub flat_sync : IsSync flat.the_row
flat_sync = search (sendable, adjacency_sync) depth 12
