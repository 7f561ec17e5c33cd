-- Proofs of `differing`, src/whole_changes.rt.
use Rattle.std.proofs.Common.{rules, ◌≡◌, ◌*◌, ◌%◌, ◌^◌, ◌<◌, ℕ, pos, not, get_or, bit_or, cond, ap, sym, ◌∙◌}
use Rattle.algorithm_meaning.specs.Arithmetic.{int_equal}
use Rattle.edge_fold.proofs.ChangedWords.{differs_more}
use Rattle.edge_fold.proofs.whole_changes.differing.Goals as goal
use Rattle.edge_fold.proofs.whole_changes.differing.Goals.{then-compare, else-compare}

pub indices-preserved : goal.indices-preserved
indices-preserved c =
    let l = c.indices in
    let b = c.compare.result in
    let set = bit_or l.word (1 * 2 ^ l.index % 2 ^ 64) in
    let low : l.index < 64 = search rules in
    let next : c.if-compare.word ≡ cond b set l.word =
    elim c.if-compare.branch [
      | then-compare w ↦ w.word-is ∙ ap (λ q. cond q set l.word) (sym w.if-compare.true)
      | else-compare w ↦ w.word-is ∙ ap (λ q. cond q set l.word) (sym w.if-compare.false)
    ] in
    let test = λ (i : ℕ). not (int_equal (get_or c.args.old.now i (pos 0)) (get_or c.args.new.now i (pos 0))) in
    let now : b ≡ test l.index = search rules in
    let all = differs_more test l.index l.word c.if-compare.word b low next now l.invariant.compared l.invariant.others in
    record { compared = all.0; others = all.1 }
