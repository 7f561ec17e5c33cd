-- That blocks go to other threads.
use denote.Param.Send.{IsSend, IsSync, sendable}
use denote.Param.SendFields.{declared_send, declared_sync}
use Rattle.std.proofs.Crossing.{crosses}
use Rattle.shared_tree.proofs.tree.Tree.TheLaws.TheKnot.{crosses as tree_crosses}
use Rattle.shared_tree.specs.contracts.tree.Tree as tree
use Rattle.tail_codec.proofs.tail.Tail.TheSendSync.{the_send as tail_send, the_sync as tail_sync}
use Rattle.c_tree.proofs.chunk_size.ChunkSize.TheSendSync.{the_send as size_send, the_sync as size_sync}
use Rattle.c_tree.specs.contracts.tail.ChunkTail as chunk
use Rattle.c_tree.proofs.tail.ChunkTail.TheSendSync.{the_send as chunk_send, the_sync as chunk_sync}
use Rattle.c_tree.specs.contracts.ctree.CTree as set
use Rattle.vertex_blocks.specs.contracts.block.VertexBlock as block
use Rattle.vertex_blocks.specs.contracts.block.Parts as parts
use Rattle.vertex_blocks.specs.contracts.long_lists.LongLists as long
use Rattle.vertex_blocks.specs.contracts.long_lists.LongEntry as entry
use Rattle.vertex_blocks.specs.contracts.long_list.LongList as list
use Rattle.vertex_blocks.specs.contracts.long_list.SharedList as shared
use Rattle.pages.proofs.packed_list.PackedList.TheSendSync.{the_send as packed_send, the_sync as packed_sync}
use Rattle.pages.proofs.page.Page.TheSendSync.{the_send as page_send, the_sync as page_sync}

chunks_send : IsSend (tree.the_row chunk.the_row)
chunks_send = search (sendable, crosses, tree_crosses, chunk_send, chunk_sync) depth 12

chunks_sync : IsSync (tree.the_row chunk.the_row)
chunks_sync = search (sendable, crosses, tree_crosses, chunk_send, chunk_sync) depth 12

pub set_send : IsSend set.the_row
set_send = search (sendable, tail_send, chunks_send, size_send) depth 12

pub set_sync : IsSync set.the_row
set_sync = search (sendable, tail_sync, chunks_sync, size_sync) depth 12

shared_send : IsSend shared.the_row
shared_send = search (sendable, crosses, packed_send, packed_sync) depth 12

shared_sync : IsSync shared.the_row
shared_sync = search (sendable, crosses, packed_send, packed_sync) depth 12

list_send : IsSend list.the_row
list_send = search (sendable, set_send, shared_send) depth 12

list_sync : IsSync list.the_row
list_sync = search (sendable, set_sync, shared_sync) depth 12

entry_send : IsSend entry.the_row
entry_send = declared_send entry.the_type (search sendable, (search (sendable, list_send) depth 20, tt))

entry_sync : IsSync entry.the_row
entry_sync = declared_sync entry.the_type (search sendable, (search (sendable, list_sync) depth 20, tt))

long_send : IsSend long.the_row
long_send = search (sendable, crosses, entry_send) depth 12

long_sync : IsSync long.the_row
long_sync = search (sendable, crosses, entry_sync) depth 12

parts_send : IsSend parts.the_row
parts_send = search (sendable, page_send, long_send) depth 12

parts_sync : IsSync parts.the_row
parts_sync = search (sendable, page_sync, long_sync) depth 12

pub block_send : IsSend block.the_row
block_send = search (sendable, crosses, parts_send, parts_sync) depth 12

pub block_sync : IsSync block.the_row
block_sync = search (sendable, crosses, parts_send, parts_sync) depth 12
