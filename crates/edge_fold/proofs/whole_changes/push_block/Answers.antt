-- Proofs of `push_block`, src/whole_changes.rt.
use Rattle.std.proofs.Common.{◌+◌, ◌-◌, ◌++◌, ℕ, ℤ, pos, not, get_or, sym, ap, ap₂, ◌∙◌, arith}
use Rattle.std.proofs.lemmas.Result.{on_ok_weaker}
use Rattle.algorithm_meaning.specs.Arithmetic.{int_equal}
use Rattle.vectors.specs.Lanes.{lane_entry}
use Rattle.edge_fold.specs.Changed.{changed_from}
use Rattle.edge_fold.proofs.ChangedWords.{part_at, word_changed}
use Rattle.edge_fold.proofs.whole_changes.push_block.Goals as goal

pub returns-then-low-numbers : goal.returns-then-low-numbers
returns-then-low-numbers c =
    let a = c.args in
    let old = lane_entry a.old in
    let new = λ (v : ℕ). get_or a.new.now v (pos 0) in
    let count = a.first + 64 - a.first in
    on_ok_weaker c.push_word.result
    (λ pushed. pushed ∙ ap (λ cs. a.changes.now.items ++ cs)
    (word_changed old new 64 a.first c.differing-word.result
    (λ i l.
    c.differing-word.ensures i l
    ∙ ap₂ (λ (x y : ℤ). not (int_equal x y))
    (part_at c.in-Some.numbers.now a.first count i (omega (arith, l)) ∙ c.in-Some.ensures.entries (a.first + i))
    (part_at a.new.now a.first count i (omega (arith, l))))
    ∙ ap (λ n. changed_from old new a.first n) (sym c.if-count-eq64.true)))
    c.push_word.ensures
