-- Proofs of `cut_at_middle`, src/middle.rt.
use Rattle.std.proofs.Common.{◌/◌, sym, ap, ◌∙◌, arith}
use Rattle.tree_batch.proofs.CutAround.{cut_around}
use Rattle.tree_batch.proofs.middle.cut_at_middle.Goals as goal

pub returns : goal.returns
returns c =
    let back = c.split_at-below.ensures.back in
    let is = sym back ∙ c.in-Some.ensures.2 in
    let cut = rw back at c.cut_length.ensures.cut in
    let rest = rw back at c.cut_length.ensures.rest in
    record {
      map = c.in_ok-lower.ensures;
      cut = rw (c.split_at-block.ensures.front, c.split_at-block.ensures.back, c.split_at-below.ensures.front, back)
          (cut_around c.args.updates.now c.count_below.result c.cut_length.result _ (c.vertex-number.result / 64) _ _ c.requires c.count_below.ensures.below c.count_below.ensures.rest is
          (ap (λ v. v / 64) c.vertex-number.ensures.value) (omega (arith, c.vertex-number.ensures.small)) cut rest);
    }
