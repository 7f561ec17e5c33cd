-- Proofs of the mutually recursive functions of src/forked.rt.
use denote.Exit.{no}
use denote.Param.{param}
use denote.Param.Send.{IsSync, sendable, param_send, arg_send, shr_send, shr_slice_send}
use Rattle.std.proofs.Crossing.{crosses, sync as heap_sync}
use Rattle.c_tree.proofs.chunk_size.ChunkSize.TheSendSync.{the_sync as size_sync}
use Rattle.edge_updates.proofs.edge_update.EdgeUpdate.TheSendSync.{the_sync as update_sync}
use Rattle.tree_batch.specs.inside.Forking.{AreAround}
use Rattle.tree_batch.proofs.Crossing.{tree_send, tree_sync, number_sync, weight_sync, nine_send}
use Rattle.tree_batch.proofs.CutAround.{below_ascends, above_ascends, here_ascends}
use Rattle.tree_batch.proofs.forked.+forked.Goals as goal

pub change_forked-sides-requires-clause-below : goal.change_forked-sides-requires-clause-below
change_forked-sides-requires-clause-below g t c κs within =
    let is : AreAround c.args.tree.now.entries c.args.updates.now c.in-Some.middle = rw c.in-Some.is at c.in_ok-middle.ensures in
    below_ascends _ _ _ _ _ is.cut c.requires.order

pub change_forked-sides-requires-clause-above : goal.change_forked-sides-requires-clause-above
change_forked-sides-requires-clause-above g t c κs within =
    let is : AreAround c.args.tree.now.entries c.args.updates.now c.in-Some.middle = rw c.in-Some.is at c.in_ok-middle.ensures in
    above_ascends _ _ _ _ _ is.cut c.requires.order

pub in_two-join-below-requires-send-A : goal.in_two-join-below-requires-send-A
in_two-join-below-requires-send-A g t c κs within = search (sendable, crosses, tree_send) depth 12

pub change_forked-block_after-requires-after_bounds : goal.change_forked-block_after-requires-after_bounds
change_forked-block_after-requires-after_bounds g t c κs within =
    let is : AreAround c.args.tree.now.entries c.args.updates.now c.in-Some.middle = rw c.in-Some.is at c.in_ok-middle.ensures in
    here_ascends _ _ _ _ _ is.cut c.requires.order

pub in_two-join-below-requires-send-F : goal.in_two-join-below-requires-send-F
in_two-join-below-requires-send-F g t c κs within =
    let f : IsSync (param 1 g.row.F) = search sendable depth 6 in
    let r : IsSync (param 0 g.row.R) = search sendable depth 6 in
    param_send _ _ (arg_send _ no _ (nine_send _ _ _ _ _ _ _ _ _ _ (shr_send _ _ _ f) (shr_send _ _ _ number_sync) (shr_slice_send _ _ _ update_sync) (shr_slice_send _ _ _ weight_sync)
    (shr_send _ _ _ number_sync) (shr_send _ _ _ r) (shr_send _ _ _ heap_sync) (shr_send _ _ _ tree_sync) (shr_send _ _ _ size_sync)))
