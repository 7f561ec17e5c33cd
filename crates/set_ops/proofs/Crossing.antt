-- That halves are lent to other threads.
use mathlib.Core.List.{[], ◌∷◌}
use mir.Syntax.{Sym}
use denote.RattleType.{RattleType}
use denote.Builtin.{u32}
use denote.Param.Send.{IsSend, IsSync, sendable}
use denote.Param.SendFields.{as_row_send, declared_send}
use denote.Struct.Field.{row_field}
use denote.Struct.Tuple.{TupleAt, type_at}
use Rattle.std.proofs.Crossing.{crosses}
use Rattle.shared_tree.proofs.tree.Tree.TheLaws.TheKnot.{crosses as tree_crosses}
use Rattle.shared_tree.specs.contracts.tree.Tree as tree
use Rattle.tail_codec.proofs.tail.Tail.TheSendSync.{the_sync as tail_sync}
use Rattle.c_tree.proofs.chunk_size.ChunkSize.TheSendSync.{the_sync as size_sync}
use Rattle.c_tree.specs.contracts.tail.ChunkTail as chunk
use Rattle.c_tree.proofs.tail.ChunkTail.TheSendSync.{the_send as chunk_send, the_sync as chunk_sync}
use Rattle.c_tree.specs.contracts.part.Part as part
use Rattle.set_ops.specs.contracts.halves.OwnedHalves as halves
use Rattle.set_ops.specs.contracts.combined.Task as task

chunks_sync : IsSync (tree.the_row chunk.the_row)
chunks_sync = search (sendable, crosses, tree_crosses, chunk_send, chunk_sync) depth 12

part_sync : IsSync part.the_row
part_sync = search (sendable, tail_sync, chunks_sync, size_sync) depth 12

pub halves_sync : IsSync halves.the_row
halves_sync = search (sendable, crosses, part_sync) depth 24

pub task_sync : IsSync task.the_row
task_sync = search (sendable, crosses) depth 16

pub number_sync : IsSync u32
number_sync = search sendable

-- a closure that captures seven values goes to another thread with them
pub seven_send : (name : Sym) (A B C D E F G : RattleType) → IsSend A → IsSend B → IsSend C → IsSend D → IsSend E → IsSend F → IsSend G → IsSend (TupleAt name (A ∷ B ∷ C ∷ D ∷ E ∷ F ∷ G ∷ []))
seven_send name A B C D E F G a b c d e f g = declared_send (type_at name (A ∷ B ∷ C ∷ D ∷ E ∷ F ∷ G ∷ [])) (
  as_row_send (row_field A) a,
  (
    as_row_send (row_field B) b,
    (
      as_row_send (row_field C) c,
      (as_row_send (row_field D) d, (as_row_send (row_field E) e, (as_row_send (row_field F) f, (as_row_send (row_field G) g, tt)))),
    ),
  ),
)
