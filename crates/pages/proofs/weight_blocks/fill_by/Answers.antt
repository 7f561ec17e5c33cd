-- Proofs of `fill_by`, src/weight_blocks.rt.
use Rattle.std.proofs.Common.{◌≡◌, ◌+◌, ◌*◌, ◌∙◌, w64, arith, rules}
use Rattle.std.proofs.lemmas.Int.{to_z-of_z}
use mir.Val.{SFits, to_z, of_z}
use Rattle.pages.specs.inside.Weights.{weight_size}
use Rattle.pages.proofs.Weighing.{weight_filled}
use Rattle.pages.proofs.weight_blocks.fill_by.Goals as goal

pub loop-weight-preserved : goal.loop-weight-preserved
loop-weight-preserved c =
    let l = c.loop-weight in
    let n = l.weight-index in
    let more : weight_size c.args.width * n + weight_size c.args.width ≡ weight_size c.args.width * (n + 1) = omega arith in
    let fits : SFits w64 c.weight_at.result = search rules in
    record {
      position = omega (arith, l.invariant.position, c.size-position.ensures.size, more);
      front = weight_filled c.args.width n c.args.start l.position (to_z w64 (of_z w64 c.weight_at.result)) c.args.bytes.now l.block (omega arith) l.invariant.position
          (to_z-of_z w64 c.weight_at.result fits ∙ c.weight_at.ensures) l.invariant.front;
    }
