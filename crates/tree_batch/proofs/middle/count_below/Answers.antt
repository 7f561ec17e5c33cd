-- Proofs of `count_below`, src/middle.rt.
use Rattle.std.proofs.Common.{pos, ◌/◌, ap, ◌∙◌, arith}
use Rattle.edge_updates.specs.EdgeUpdate.{vertex_of}
use Rattle.tree_batch.proofs.CutAround.{below_longer, begins_from}
use Rattle.tree_batch.proofs.middle.count_below.Goals as goal

pub loop-count-preserved : goal.loop-count-preserved
loop-count-preserved c =
    let at = c.vertex.ensures.value ∙ ap vertex_of (c.update.ensures (c.update.result, pos 0)) in
    record {
      bounded = omega (arith, c.loop-count-test.true, c.len.ensures);
      below = below_longer c.args.block c.vertex.result c.args.updates.now c.loop-count.count (c.update.result, pos 0)
          (omega (arith, c.loop-count-test.true, c.len.ensures)) at c.if-vertex-block.false c.loop-count.invariant.below;
    }

pub returns-then-vertex-block-clause-rest : goal.returns-then-vertex-block-clause-rest
returns-then-vertex-block-clause-rest c =
    let at = c.vertex.ensures.value ∙ ap vertex_of (c.update.ensures (c.update.result, pos 0)) in
    begins_from c.args.block c.args.updates.now c.loop-count.count (c.update.result, pos 0) (omega (arith, c.loop-count-test.true, c.len.ensures))
    (omega (arith, c.if-vertex-block.true, ap (λ v. v / 64) at))
