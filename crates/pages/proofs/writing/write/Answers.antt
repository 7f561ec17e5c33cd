-- Proofs of `write`, src/writing.rt.
use Rattle.std.proofs.Common.{◌≡◌, ℕ, ◌+◌, ◌-◌, ◌*◌, take, drop, refl, sym, ◌∙◌, ap, arith}
use Rattle.std.proofs.lemmas.List.{drop-drop}
use Rattle.ascending_lists.proofs.Cutting.{rises}
use Rattle.pages.proofs.Decoding.{times_more}
use Rattle.pages.proofs.Encoding.{element_written, front_stays, middle_stays}
use Rattle.pages.proofs.writing.write.Goals as goal

pub overflow_sub-list : goal.overflow_sub-list
overflow_sub-list c = rises 0 c.args.list.now c.requires.ascending 0 c.loop-index.index (omega arith) (omega arith)

pub loop-index-preserved : goal.loop-index-preserved
loop-index-preserved c =
    let l = c.loop-index in
    let position : ℕ = c.args.position in
    let w : ℕ = c.args.width in
    let new = c.put-in-loop-index.new.bytes in
    let m : ℕ = 4 + w * (l.index - 1) in
    let at : l.at ≡ position + m = l.invariant.at in
    let back : l.index - 1 + 1 ≡ l.index + 1 - 1 = omega arith in
    let next : position + (4 + (w * (l.index - 1) + w)) ≡ position + (4 + w * (l.index + 1 - 1)) = ap (λ k. position + (4 + k)) (times_more w (l.index - 1) ∙ ap (λ k. w * k) back) in
    let part : take 4 (drop m (drop position new)) ≡ take 4 (drop l.at new) = ap (take 4) (drop-drop m position new ∙ ap (λ k. drop k new) (sym at)) in
    record {
      at = omega (arith, at, next);
      front = front_stays position l.at new l.bytes (omega (arith, at)) c.put-in-loop-index.ensures.front ∙ l.invariant.front;
      list = element_written w l.index m _ (drop position l.bytes) (drop position new) c.args.list.now (omega arith) c.requires.width.1 refl (omega arith) c.requires.ascending c.requires.wide refl
          (middle_stays position m l.at new l.bytes at c.put-in-loop-index.ensures.front) (part ∙ c.put-in-loop-index.ensures.part) l.invariant.list;
    }
