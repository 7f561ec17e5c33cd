-- Proofs of `word_from_test`, src/words.rt.
use Rattle.std.proofs.Common.{◌≡◌, ◌*◌, ◌%◌, ◌^◌, bit_or, cond, ap, sym, ◌∙◌, arith}
use Rattle.vertex_sets.proofs.WordMembers.{next_bit}
use Rattle.vertex_sets.proofs.words.word_from_test.Goals as goal
use Rattle.vertex_sets.proofs.words.word_from_test.Goals.{then-test, else-test}

pub loop-bit-preserved : goal.loop-bit-preserved
loop-bit-preserved g c =
    let l = c.loop-bit in
    let passes = c.test.result in
    let set = bit_or l.word (1 * 2 ^ l.bit % 2 ^ 64) in
    let next : c.if-test.word ≡ cond passes set l.word =
    elim c.if-test.branch [
      | then-test w ↦ w.word-is ∙ ap (λ b. cond b set l.word) (sym w.if-test.true)
      | else-test w ↦ w.word-is ∙ ap (λ b. cond b set l.word) (sym w.if-test.false)
    ] in
    let all = next_bit (λ v b. g.F.Fn.post c.args.test.now (v, tt) b) c.args.from l.bit l.word c.if-test.word passes (omega (arith, c.requires.count)) next
    c.test.ensures l.invariant.tested l.invariant.others in
    record { tested = all.0; others = all.1 }
