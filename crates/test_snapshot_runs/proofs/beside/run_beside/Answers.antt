-- Proofs of `run_beside`, src/beside.rt.
use denote.Exit.{no}
use denote.Param.{param}
use denote.Param.Send.{param_send, arg_send, shr_send, mut_send}
use Rattle.std.proofs.Crossing.{sync as heap_sync}
use Rattle.shared_graph.proofs.Crossing.{reader_send, graph_shared, four_send}
use Rattle.test_snapshot_runs.proofs.beside.run_beside.Goals as goal

-- the writer goes to another thread, which shares the graph
pub join-requires-send-F : goal.join-requires-send-F
join-requires-send-F g c κs within =
    let s = graph_shared (param 0 g.row.J) _ g.J.Naming (shr_send _ _ _ c.type_bounds.sync-R) in
    let r = reader_send (param 0 g.row.J) g.J.Naming in
    param_send _ _ (arg_send _ no _ (four_send _ _ _ _ _ (shr_send _ _ _ c.type_bounds.sync-R) (shr_send _ _ _ heap_sync)
    (shr_send _ _ _ s) (mut_send _ _ _ r)))
