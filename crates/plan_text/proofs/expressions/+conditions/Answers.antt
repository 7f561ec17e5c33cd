-- Proofs of the mutually recursive functions of src/expressions.rt.
use Rattle.std.proofs.Common.{◌≡◌, ◌∷◌, [], ◌++◌, ◌+◌, codes, drop, suc, sym, ◌∙◌, ap, add-one, drop-cons}
use Rattle.std.proofs.lemmas.Result.{on_ok_weaker}
use Rattle.typed_tree.specs.BoolExpressionTree.{bool_expression_tree}
use Rattle.typed_tree.specs.IntExpressionTree.{int_expression_tree}
use Rattle.typed_tree.specs.ProgramTree.{program_tree}
use Rattle.typed_tree.proofs.Chains.{bool_expression_tree-Connect}
use Rattle.plan_text.specs.Expressions.{comparison_word, condition_words, connective_word, integer_words, spaced}
use Rattle.plan_text.specs.inside.Rows.{connected_words, times}
use Rattle.plan_text.proofs.Rows.{bool_expression_tree-Not, words_connected, words_inverted}
use Rattle.plan_text.proofs.Spaces.{put_after, still_left}
use Rattle.plan_text.proofs.expressions.+conditions.Goals as goal

pub put_condition-returns-in_ok-put_condition-in-Not : goal.put_condition-returns-in_ok-put_condition-in-Not
put_condition-returns-in_ok-put_condition-in-Not t c =
    let p = program_tree c.args.lines.program.now in
    let old = c.args.out.now.items in
    let tree = ap bool_expression_tree c.in-Not.is ∙ bool_expression_tree-Not c.in-Not.nots c.in-Not.c in
    let inside = c.in_ok-put_condition-in-Not.ensures ∙ ap (λ e. old ++ spaced (condition_words p (bool_expression_tree e))) c.deref.ensures in
    on_ok_weaker c.put_times.result (λ is.
    put_after old c.put_condition.new.out.items c.put_times.new.out.items (condition_words p (bool_expression_tree c.in-Not.c.value)) (times c.in-Not.nots (codes "not")) inside is
    ∙ ap (λ ws. old ++ spaced ws) (sym (words_inverted p c.in-Not.nots (bool_expression_tree c.in-Not.c.value)) ∙ ap (condition_words p) (sym tree)))
    c.put_times.ensures

pub put_condition-returns-in_ok-put_integer-in-Compare-2 : goal.put_condition-returns-in_ok-put_integer-in-Compare-2
put_condition-returns-in_ok-put_integer-in-Compare-2 t c =
    let p = program_tree c.args.lines.program.now in
    let old = c.args.out.now.items in
    let left = integer_words p (int_expression_tree c.in-Compare.left) in
    let right = integer_words p (int_expression_tree c.in-Compare.right) in
    let tree = ap bool_expression_tree c.in-Compare.is in
    let both = put_after old c.put_integer.new.out.items c.put_integer-in-Compare.new.out.items left right c.in_ok-put_integer-in-Compare.ensures c.in_ok-put_integer-in-Compare-2.ensures in
    on_ok_weaker c.put_word-in-Compare.result (λ is.
    put_after old c.put_integer-in-Compare.new.out.items c.put_word-in-Compare.new.out.items (left ++ right) (comparison_word c.in-Compare.comparison ∷ []) both
    (is ∙ ap (λ w. c.put_integer-in-Compare.new.out.items ++ spaced (w ∷ [])) c.comparison_text.ensures)
    ∙ ap (λ e. old ++ spaced (condition_words p e)) (sym tree))
    c.put_word-in-Compare.ensures

pub put_condition-returns-in_ok-put_condition-in-Connect : goal.put_condition-returns-in_ok-put_condition-in-Connect
put_condition-returns-in_ok-put_condition-in-Connect t c =
    let p = program_tree c.args.lines.program.now in
    let old = c.args.out.now.items in
    let connective = c.in-Connect.connective in
    let first = bool_expression_tree c.in-Connect.first.value in
    let others = c.in-Connect.others.items in
    let tree = ap bool_expression_tree c.in-Connect.is ∙ bool_expression_tree-Connect connective c.in-Connect.first c.in-Connect.others in
    let inside = c.in_ok-put_condition-in-Connect.ensures ∙ ap (λ e. old ++ spaced (condition_words p (bool_expression_tree e))) c.deref-in-Connect.ensures in
    on_ok_weaker c.put_connected.result (λ is.
    put_after old c.put_condition-in-Connect.new.out.items c.put_connected.new.out.items (condition_words p first) (connected_words p connective others) inside
    (is ∙ ap (λ cs. c.put_condition-in-Connect.new.out.items ++ spaced (connected_words p connective cs)) c.deref-in-Connect-2.ensures.value)
    ∙ ap (λ ws. old ++ spaced ws) (sym (words_connected p connective first others) ∙ ap (condition_words p) (sym tree)))
    c.put_connected.ensures

pub put_connected-conditions-preserved : goal.put_connected-conditions-preserved
put_connected-conditions-preserved t c =
    let p = program_tree c.args.lines.program.now in
    let connective = c.args.connective in
    let conditions = c.args.conditions.now in
    let i = c.conditions.condition-index in
    let o = c.condition-item.result in
    let cut : drop i conditions ≡ o ∷ drop (i + 1) conditions =
    drop-cons conditions i o c.conditions-test.true ∙ ap (λ y. y ∷ drop (suc i) conditions) (sym c.condition-item.is) ∙ ap (λ n. o ∷ drop n conditions) (sym (add-one i)) in
    still_left c.conditions.out.items c.put_condition.new.out.items c.put_word.new.out.items _ (condition_words p (bool_expression_tree o)) (connective_word connective ∷ [])
    (connected_words p connective (drop (i + 1) conditions))
    c.in_ok-put_condition.ensures (c.in_ok-put_word.ensures ∙ ap (λ w. c.put_condition.new.out.items ++ spaced (w ∷ [])) c.connective_text.ensures)
    (ap (λ os. c.conditions.out.items ++ spaced (connected_words p connective os)) (sym cut) ∙ c.conditions.invariant)
