-- Proofs of `cut_length`, src/cuts.rt.
use Rattle.std.proofs.Common.{pos, ◌/◌, sym, ap, ◌∙◌, arith}
use Rattle.edge_updates.specs.EdgeUpdate.{vertex_of}
use Rattle.tree_batch.proofs.Decided.{cut_longer, begins_elsewhere}
use Rattle.tree_batch.proofs.cuts.cut_length.Goals as goal

pub loop-count-preserved : goal.loop-count-preserved
loop-count-preserved c =
    let at = c.vertex.ensures.value ∙ ap vertex_of (c.update.ensures (c.update.result, pos 0)) in
    record {
      bounded = omega (arith, c.loop-count-test.true, c.len.ensures);
      cut = cut_longer c.args.block c.args.updates.now c.loop-count.count (c.update.result, pos 0) (omega (arith, c.loop-count-test.true, c.len.ensures))
          (sym (ap (λ v. v / 64) at) ∙ c.if-vertex-block.false) c.loop-count.invariant.cut;
    }

pub returns-then-vertex-block-clause-rest : goal.returns-then-vertex-block-clause-rest
returns-then-vertex-block-clause-rest c =
    let at = c.vertex.ensures.value ∙ ap vertex_of (c.update.ensures (c.update.result, pos 0)) in
    begins_elsewhere c.args.block c.args.updates.now c.loop-count.count (c.update.result, pos 0) (omega (arith, c.loop-count-test.true, c.len.ensures))
    (λ same. c.if-vertex-block.true (ap (λ v. v / 64) at ∙ same))
