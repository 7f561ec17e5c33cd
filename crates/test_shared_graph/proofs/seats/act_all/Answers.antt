-- Proofs of `act_all`, src/seats.rt.
use mathlib.Core.List.{[], ◌∷◌}
use mir.Syntax.{Sym}
use denote.RattleType.{RattleType}
use denote.Param.Send.{IsSend, IsSync, sendable, arg_sync, param_sync, shr_send, shr_sync}
use denote.Param.SendFields.{as_row_sync, declared_send, declared_sync}
use denote.Struct.Field.{row_field}
use denote.Struct.Tuple.{TupleAt, type_at}
use Rattle.std.proofs.Crossing.{crosses, sync as heap_sync}
use Rattle.shared_graph.specs.declared.naming.Naming as naming
use Rattle.shared_graph.proofs.Crossing.{reader_send, graph_shared}
use Rattle.test_shared_graph.specs.contracts.seats.Seat as seat
use Rattle.test_shared_graph.proofs.failure.Failure.TheSendSync.{the_send as failure_send}
use Rattle.test_shared_graph.proofs.seats.Role.TheSendSync.{the_send as role_send}
use denote.Exit.{no}
use denote.Param.{param}
use Rattle.test_shared_graph.proofs.seats.act_all.Goals as goal

-- readers with their roles go to other threads

module _ (J : RattleType) (g : naming.Ghosts J.Denot) where
  pub seat_send : IsSend (seat.the_row J g)
  seat_send = declared_send (seat.the_type J g)
      (reader_send J g, (search (sendable, crosses, role_send) depth 20, (search (sendable, crosses, failure_send) depth 20, tt)))

-- threads share a closure that takes three values
pub three_sync : (name : Sym) (A B C : RattleType) → IsSync A → IsSync B → IsSync C → IsSync (TupleAt name (A ∷ B ∷ C ∷ []))
three_sync name A B C a b c = declared_sync (type_at name (A ∷ B ∷ C ∷ []))
    (as_row_sync (row_field A) a, (as_row_sync (row_field B) b, (as_row_sync (row_field C) c, tt)))

-- readers go to other threads with their roles
pub for_each_mut-requires-send-T : goal.for_each_mut-requires-send-T
for_each_mut-requires-send-T g c κs within = search (sendable, crosses, seat_send) depth 30

-- all threads share the graph
pub for_each_mut-requires-sync-F : goal.for_each_mut-requires-sync-F
for_each_mut-requires-sync-F g c κs within =
    let s = graph_shared (param 0 g.row.J) _ g.J.Naming (shr_send _ _ _ c.type_bounds.sync-R) in
    param_sync _ _ (arg_sync _ no _ (three_sync _ _ _ _ (shr_sync _ _ _ c.type_bounds.sync-R) (shr_sync _ _ _ heap_sync)
    (shr_sync _ _ _ s)))
