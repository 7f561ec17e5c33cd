-- Proofs of `merge_columns`, src/merging.rt.
use Rattle.std.proofs.Common.{◌≡◌, ◌++◌, true, false, take, drop, sym, ap, ◌∙◌, arith}
use Rattle.std.specs.List.{zip}
use Rattle.std.specs.Prelude.{Some}
use Rattle.std.proofs.lemmas.List.{append-nil}
use Rattle.ascending_lists.specs.inside.Operations.{takes_second}
use Rattle.tail_codec.specs.inside.Merging.{merged}
use Rattle.tail_codec.proofs.Columns.{take_in}
use Rattle.tail_codec.proofs.Writing.{few_entries, written_anew}
use Rattle.tail_codec.proofs.MapMerging.{merged_whole}
use Rattle.tail_codec.proofs.merging.merge_columns.Goals as goal
use Rattle.tail_codec.proofs.merging.merge_columns.Goals.{then-takes_second+in_ok-append_to-2, else-takes_second}

pub most-most-requires : goal.most-most-requires
most-most-requires c = omega (arith, c.len.ensures, c.len-2.ensures, few_entries 0 c.args.first.now c.requires.first, few_entries 0 c.args.second.now c.requires.second)

pub returns : goal.returns
returns c =
    let op = c.args.operation in
    let xs = c.args.first.now in
    let ys = c.args.second.now in
    let m = c.merge_front-merged in
    let keys : c.truncate.new.self.items ≡ take m.result.len m.new.keys =
    c.truncate.ensures.items ∙ ap (take m.result.len) (written_anew _ m.new.keys _ (m.auto.keys ∙ c.deref_mut.ensures.len)) in
    let weights : c.truncate-2.new.self.items ≡ take m.result.len m.new.weights =
    c.truncate-2.ensures.items ∙ ap (take m.result.len) (written_anew _ m.new.weights _ (m.auto.weights ∙ c.deref_mut-2.ensures.len)) in
    let front : zip c.truncate.new.self.items c.truncate-2.new.self.items ≡ take m.result.len (zip m.new.keys m.new.weights) =
    ap (λ v. zip v c.truncate-2.new.self.items) keys ∙ ap (λ v. zip (take m.result.len m.new.keys) v) weights ∙ sym (take_in m.result.len m.new.keys (Some m.new.weights)) in
    let more : zip c.append_to.new.keys.items c.append_to.new.weights.items ≡ take m.result.len (zip m.new.keys m.new.weights) ++ drop m.result.first xs =
    c.in_ok-append_to.ensures.whole ∙ ap (λ v. v ++ c.from.result) front ∙ ap (λ v. take m.result.len (zip m.new.keys m.new.weights) ++ v) c.from.ensures in
    let whole = merged_whole op (merged op xs ys) (take m.result.len (zip m.new.keys m.new.weights)) (drop m.result.first xs) (drop m.result.second ys) m.ensures.whole m.ensures.ends in
    c.new.ensures ∙ elim c.if-takes_second.branch [
      | then-takes_second+in_ok-append_to-2 w ↦
          let takes : takes_second op ≡ true = sym c.takes_second.ensures ∙ w.if-takes_second.true in
          rw (w.keys-is, w.weights-is) (w.in_ok-append_to-2.ensures.whole ∙ ap (λ v. v ++ w.from-then-takes_second.result) more
          ∙ ap (λ v. (take m.result.len (zip m.new.keys m.new.weights) ++ drop m.result.first xs) ++ v) w.from-then-takes_second.ensures ∙ (rw takes at whole))
      | else-takes_second w ↦
          let takes : takes_second op ≡ false = sym c.takes_second.ensures ∙ w.if-takes_second.false in
          let all = rw takes at whole in
          rw (w.keys-is, w.weights-is) (more ∙ sym (append-nil (take m.result.len (zip m.new.keys m.new.weights) ++ drop m.result.first xs)) ∙ all)
    ]
