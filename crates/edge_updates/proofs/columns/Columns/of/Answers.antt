-- Proofs of `of`, src/columns.rt.
use Rattle.std.proofs.Common.{rules, arith, w64}
use Rattle.std.proofs.lemmas.Int.{to_z-of_z}
use Rattle.edge_updates.proofs.PairColumns.{columns_more, longer}
use Rattle.edge_updates.proofs.columns.Columns.of.Goals as goal

pub loop-pair-preserved : goal.loop-pair-preserved
loop-pair-preserved c = record {
  same = rw (c.in_ok-push.ensures.items, c.in_ok-push-2.ensures.items)
      (columns_more c.args.pairs.now c.loop-pair.pair-index _ c.loop-pair.updates.items c.loop-pair.weights.items _ (omega arith)
      (to_z-of_z w64 _ (search rules)) c.loop-pair.invariant.same c.loop-pair.invariant.len);
  len = longer c.loop-pair.updates.items _ c.loop-pair.weights.items _ _ _ c.in_ok-push.ensures.items c.in_ok-push-2.ensures.items c.loop-pair.invariant.len;
}
