-- Proofs of `merge`, src/set_operation.rt.
use Rattle.std.proofs.Common.{◌≡◌, ◌++◌, true, false, take, drop, sym, ap, ◌∙◌}
use Rattle.std.proofs.lemmas.List.{append-nil, take_rest}
use Rattle.ascending_lists.specs.Operations.{combined}
use Rattle.ascending_lists.specs.inside.Operations.{takes_second}
use Rattle.ascending_lists.proofs.Merging.{merged_whole, written_anew}
use Rattle.ascending_lists.proofs.set_operation.merge.Goals as goal
use Rattle.ascending_lists.proofs.set_operation.merge.Goals.{then-takes_second+in_ok-extend_from_slice-2, else-takes_second}

pub returns : goal.returns
returns c =
    let op = c.args.operation in
    let xs = c.args.first.now in
    let ys = c.args.second.now in
    let m = c.merge_front-merged in
    let front : c.truncate.new.self.items ≡ take m.result.len m.new.list =
    c.truncate.ensures.items ∙ ap (take m.result.len) (written_anew _ m.new.list _ (m.auto.list ∙ c.deref_mut.ensures.len)) in
    let more : c.extend_from_slice.new.self.items ≡ take m.result.len m.new.list ++ drop m.result.first xs =
    c.in_ok-extend_from_slice.ensures.items ∙ ap (λ v. c.truncate.new.self.items ++ v) (take_rest xs m.result.first) ∙ ap (λ v. v ++ drop m.result.first xs) front in
    let whole = merged_whole op (combined op xs ys) (take m.result.len m.new.list) (drop m.result.first xs) (drop m.result.second ys) m.ensures.whole m.ensures.ends in
    elim c.if-takes_second.branch [
      | then-takes_second+in_ok-extend_from_slice-2 w ↦
          let takes : takes_second op ≡ true = sym c.takes_second.ensures ∙ w.if-takes_second.true in
          rw w.list-is (w.in_ok-extend_from_slice-2.ensures.items ∙ ap (λ v. c.extend_from_slice.new.self.items ++ v) (take_rest ys m.result.second) ∙ ap (λ v. v ++ drop m.result.second ys) more
          ∙ (rw takes at whole))
      | else-takes_second w ↦
          let takes : takes_second op ≡ false = sym c.takes_second.ensures ∙ w.if-takes_second.false in
          let all = rw takes at whole in
          rw w.list-is (more ∙ sym (append-nil (take m.result.len m.new.list ++ drop m.result.first xs)) ∙ all)
    ]
