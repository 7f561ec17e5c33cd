-- That trees of blocks and graphs go to other threads.
use mathlib.Core.List.{[], ◌∷◌}
use mir.Syntax.{Sym}
use denote.RattleType.{RattleType}
use denote.Builtin.{u32, i64}
use denote.Param.Send.{IsSend, IsSync, sendable}
use denote.Param.SendFields.{as_row_send, declared_send}
use denote.Struct.Field.{row_field}
use denote.Struct.Tuple.{TupleAt, type_at}
use Rattle.std.proofs.Crossing.{crosses}
use Rattle.shared_tree.proofs.tree.Tree.TheLaws.TheKnot.{crosses as tree_crosses}
use Rattle.shared_tree.specs.contracts.tree.Tree as tree
use Rattle.c_tree.proofs.chunk_size.ChunkSize.TheSendSync.{the_send as size_send, the_sync as size_sync}
use Rattle.vertex_blocks.specs.contracts.block.VertexBlock as block
use Rattle.vertex_blocks.proofs.Crossing.{block_send, block_sync}
use Rattle.tree_batch.specs.contracts.graph.Graph as graph

pub tree_send : IsSend (tree.the_row block.the_row)
tree_send = search (sendable, crosses, tree_crosses, block_send, block_sync) depth 12

pub tree_sync : IsSync (tree.the_row block.the_row)
tree_sync = search (sendable, crosses, tree_crosses, block_send, block_sync) depth 12

pub graph_send : IsSend graph.the_row
graph_send = search (sendable, size_send, tree_send) depth 12

pub graph_sync : IsSync graph.the_row
graph_sync = search (sendable, size_sync, tree_sync) depth 12

pub number_sync : IsSync u32
number_sync = search sendable

pub weight_sync : IsSync i64
weight_sync = search sendable

-- a closure that captures nine values goes to another thread with them
pub nine_send : (name : Sym) (A B C D E F G H I : RattleType) → IsSend A → IsSend B → IsSend C → IsSend D → IsSend E → IsSend F → IsSend G → IsSend H → IsSend I
    → IsSend (TupleAt name (A ∷ B ∷ C ∷ D ∷ E ∷ F ∷ G ∷ H ∷ I ∷ []))
nine_send name A B C D E F G H I a b c d e f g h i = declared_send (type_at name (A ∷ B ∷ C ∷ D ∷ E ∷ F ∷ G ∷ H ∷ I ∷ [])) (
  as_row_send (row_field A) a,
  (
    as_row_send (row_field B) b,
    (
      as_row_send (row_field C) c,
      (
        as_row_send (row_field D) d,
        (as_row_send (row_field E) e, (as_row_send (row_field F) f, (as_row_send (row_field G) g, (as_row_send (row_field H) h, (as_row_send (row_field I) i, tt))))),
      ),
    ),
  ),
)
