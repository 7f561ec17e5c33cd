-- Proofs of `write_weights`, src/writing.rt.
use Rattle.std.proofs.Common.{◌≡◌, ◌+◌, ◌*◌, drop, ◌∙◌, w64, arith, rules}
use Rattle.std.proofs.lemmas.Int.{to_z-of_z}
use mir.Val.{SFits}
use Rattle.pages.specs.declared.weights.WeightWidth.TheVariants.{Ones}
use Rattle.pages.specs.inside.Weights.{weight_size}
use Rattle.pages.proofs.Encoding.{front_stays}
use Rattle.pages.proofs.Weighing.{ones_written, weight_written}
use Rattle.pages.proofs.writing.write_weights.Goals as goal

pub returns-then-is_ones-clause-weights : goal.returns-then-is_ones-clause-weights
returns-then-is_ones-clause-weights c =
    let is : c.args.width ≡ Ones = c.is_ones.ensures.0 (search rules) in
    rw is (ones_written c.args.count (drop c.args.position c.args.bytes.now) c.args.weights.now (λ i. rw is at (c.requires.allows i)))

pub loop-index-preserved : goal.loop-index-preserved
loop-index-preserved c =
    let l = c.loop-index in
    let n = l.index in
    let new = c.put_weight.new.bytes in
    let fits : SFits w64 c.weight_of.result = search rules in
    let more : weight_size c.args.width * n + weight_size c.args.width ≡ weight_size c.args.width * (n + 1) = omega arith in
    record {
      at = omega (arith, l.invariant.at, c.size-at.ensures.size, more);
      front = front_stays c.args.position l.at new l.bytes (omega (arith, l.invariant.at)) c.put_weight.ensures.front ∙ l.invariant.front;
      weights = weight_written c.args.width n c.args.position l.at c.weight_of.result l.bytes new c.args.weights.now l.invariant.at c.put_weight.ensures.front
          (c.put_weight.ensures.weight ∙ to_z-of_z w64 c.weight_of.result fits) c.weight_of.ensures l.invariant.weights;
    }
