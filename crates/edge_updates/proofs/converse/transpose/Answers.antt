-- Proofs of `transpose`, src/converse.rt.
use Rattle.std.proofs.Common.{◌≡◌, length, drop, ◌∙◌, arith}
use Rattle.edge_updates.proofs.Transposing.{transposed_more, transposed_all, decided_transposed, once_transposed, transposed_sorted}
use Rattle.edge_updates.proofs.converse.transpose.Goals as goal

pub loop-update-preserved : goal.loop-update-preserved
loop-update-preserved g c =
    let t = c.transposed.ensures in
    transposed_more g.T.Update.pair_of _ c.loop-update.update-items c.loop-update.update-index _ c.transposed.result (omega arith) c.loop-update.invariant
    (record { vertex = t.vertex; neighbour = t.neighbour; is_added = t.is_added; weight = t.weight })

pub returns-clause-same : goal.returns-clause-same
returns-clause-same g c u v =
    let old = c.args.updates.now.items in
    let len : length c.loop-update.update-items ≡ c.args.updates.now.len = c.loop-update.auto.update-items ∙ c.deref_mut-update-items.ensures.len in
    let all = transposed_all g.T.Update.pair_of old c.loop-update.update-items (drop (length c.loop-update.update-items) old) c.loop-update.update-index c.args.updates.now.len
    c.loop-update.invariant (omega arith) len in
    decided_transposed g.T.Update.pair_of old _ u v all

pub returns-clause-once : goal.returns-clause-once
returns-clause-once g c once =
    let old = c.args.updates.now.items in
    let len : length c.loop-update.update-items ≡ c.args.updates.now.len = c.loop-update.auto.update-items ∙ c.deref_mut-update-items.ensures.len in
    let all = transposed_all g.T.Update.pair_of old c.loop-update.update-items (drop (length c.loop-update.update-items) old) c.loop-update.update-index c.args.updates.now.len
    c.loop-update.invariant (omega arith) len in
    once_transposed g.T.Update.pair_of old _ all once

pub returns-clause-rising : goal.returns-clause-rising
returns-clause-rising g c ascends =
    let old = c.args.updates.now.items in
    let len : length c.loop-update.update-items ≡ c.args.updates.now.len = c.loop-update.auto.update-items ∙ c.deref_mut-update-items.ensures.len in
    let all = transposed_all g.T.Update.pair_of old c.loop-update.update-items (drop (length c.loop-update.update-items) old) c.loop-update.update-index c.args.updates.now.len
    c.loop-update.invariant (omega arith) len in
    transposed_sorted g.T.Update.pair_of old _ ascends all
