-- Proofs of the mutually recursive functions of src/expressions.rt.
use Rattle.std.proofs.Common.{◌≡◌, ◌∷◌, [], ◌++◌, ◌+◌, codes, drop, suc, sym, ◌∙◌, ap, add-one, drop-cons}
use Rattle.std.proofs.lemmas.Result.{on_ok_weaker}
use Rattle.typed_tree.specs.IntExpressionTree.{int_expression_tree}
use Rattle.typed_tree.specs.ProgramTree.{program_tree}
use Rattle.typed_tree.proofs.Chains.{int_expression_tree-Arithmetic}
use Rattle.plan_text.specs.Expressions.{entry_word, integer_words, operator_word, spaced}
use Rattle.plan_text.specs.inside.Rows.{operand_words, times}
use Rattle.plan_text.proofs.Rows.{int_expression_tree-Entry, int_expression_tree-Negative, words_negated, words_operands}
use Rattle.plan_text.proofs.Spaces.{put_after, still_left}
use Rattle.plan_text.proofs.expressions.+integers.Goals as goal

pub put_integer-returns-in_ok-put_integer-in-Entry : goal.put_integer-returns-in_ok-put_integer-in-Entry
put_integer-returns-in_ok-put_integer-in-Entry t c =
    let p = program_tree c.args.lines.program.now in
    let old = c.args.out.now.items in
    let tree = ap int_expression_tree c.in-Entry.is ∙ int_expression_tree-Entry c.in-Entry.vector c.in-Entry.index in
    let index = c.in_ok-put_integer-in-Entry.ensures ∙ ap (λ e. old ++ spaced (integer_words p (int_expression_tree e))) c.deref.ensures in
    on_ok_weaker c.put_entry-in-Entry.result (λ is.
    put_after old c.put_integer.new.out.items c.put_entry-in-Entry.new.out.items (integer_words p (int_expression_tree c.in-Entry.index.value)) (entry_word p c.in-Entry.vector ∷ []) index is
    ∙ ap (λ e. old ++ spaced (integer_words p e)) (sym tree))
    c.put_entry-in-Entry.ensures

pub put_integer-returns-in_ok-put_integer-in-Negative : goal.put_integer-returns-in_ok-put_integer-in-Negative
put_integer-returns-in_ok-put_integer-in-Negative t c =
    let p = program_tree c.args.lines.program.now in
    let old = c.args.out.now.items in
    let tree = ap int_expression_tree c.in-Negative.is ∙ int_expression_tree-Negative c.in-Negative.signs c.in-Negative.e in
    let inside = c.in_ok-put_integer-in-Negative.ensures ∙ ap (λ e. old ++ spaced (integer_words p (int_expression_tree e))) c.deref-in-Negative.ensures in
    on_ok_weaker c.put_times.result (λ is.
    put_after old c.put_integer-in-Negative.new.out.items c.put_times.new.out.items (integer_words p (int_expression_tree c.in-Negative.e.value)) (times c.in-Negative.signs (codes "neg")) inside is
    ∙ ap (λ ws. old ++ spaced ws) (sym (words_negated p c.in-Negative.signs (int_expression_tree c.in-Negative.e.value)) ∙ ap (integer_words p) (sym tree)))
    c.put_times.ensures

pub put_integer-returns-in_ok-put_integer-in-Arithmetic : goal.put_integer-returns-in_ok-put_integer-in-Arithmetic
put_integer-returns-in_ok-put_integer-in-Arithmetic t c =
    let p = program_tree c.args.lines.program.now in
    let old = c.args.out.now.items in
    let first = int_expression_tree c.in-Arithmetic.first.value in
    let operands = c.in-Arithmetic.operands.items in
    let tree = ap int_expression_tree c.in-Arithmetic.is ∙ int_expression_tree-Arithmetic c.in-Arithmetic.first c.in-Arithmetic.operands in
    let inside = c.in_ok-put_integer-in-Arithmetic.ensures ∙ ap (λ e. old ++ spaced (integer_words p (int_expression_tree e))) c.deref-in-Arithmetic.ensures in
    on_ok_weaker c.put_operands.result (λ is.
    put_after old c.put_integer-in-Arithmetic.new.out.items c.put_operands.new.out.items (integer_words p first) (operand_words p operands) inside
    (is ∙ ap (λ os. c.put_integer-in-Arithmetic.new.out.items ++ spaced (operand_words p os)) c.deref-in-Arithmetic-2.ensures.value)
    ∙ ap (λ ws. old ++ spaced ws) (sym (words_operands p first operands) ∙ ap (integer_words p) (sym tree)))
    c.put_operands.ensures

pub put_operands-operands-preserved : goal.put_operands-operands-preserved
put_operands-operands-preserved t c =
    let p = program_tree c.args.lines.program.now in
    let operands = c.args.operands.now in
    let i = c.operands.operand-index in
    let o = c.operand-item.result in
    let cut : drop i operands ≡ o ∷ drop (i + 1) operands =
    drop-cons operands i o c.operands-test.true ∙ ap (λ y. y ∷ drop (suc i) operands) (sym c.operand-item.is) ∙ ap (λ n. o ∷ drop n operands) (sym (add-one i)) in
    still_left c.operands.out.items c.put_integer.new.out.items c.put_word.new.out.items _ (integer_words p (int_expression_tree o.integer)) (operator_word o.operator ∷ [])
    (operand_words p (drop (i + 1) operands))
    c.in_ok-put_integer.ensures (c.in_ok-put_word.ensures ∙ ap (λ w. c.put_integer.new.out.items ++ spaced (w ∷ [])) c.operator_text.ensures)
    (ap (λ os. c.operands.out.items ++ spaced (operand_words p os)) (sym cut) ∙ c.operands.invariant)
