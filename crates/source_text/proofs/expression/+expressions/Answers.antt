-- Proofs of the mutually recursive functions of src/expression.rt.
use Rattle.std.proofs.Common.{[], ◌∷◌, ◌++◌, ◌≡◌, ◌<◌, ◌≤◌, sym, ◌∙◌, ap, length, get_or}
use Rattle.std.proofs.lemmas.Result.{on_ok_weaker}
use Rattle.syntax.specs.inside.ExpressionViews.{comparison_of, conjunction_of, term_of}
use Rattle.syntax.specs.ExpressionViews.{primary_of, unary_of}
use Rattle.syntax.specs.ExpressionSpelling.{comparison_terminals, conjunction_terminals, expression_terminals, primary_terminals, term_terminals, unary_terminals}
use Rattle.syntax.specs.SourceSpelling.{each_before}
use Rattle.source_text.specs.inside.Written.{signs_before}
use Rattle.source_text.proofs.Levels.{or_before, and_before, added_before, multiplied_before, expression_split, conjunction_split, sum_split, term_split, unary_split}
use Rattle.source_text.proofs.Puts.{up_to_first, up_to_more, up_to_all, completes_same, puts_all_but}
use Rattle.lexer.specs.declared.symbol.Symbol.TheVariants as symbol
use Rattle.syntax.specs.Terminals.{OfSymbol}
use Rattle.source_text.proofs.expression.+expressions.Goals as goal

pub put_conjunction-others-init : goal.put_conjunction-others-init
put_conjunction-others-init t c =
    up_to_first _ (λ rest. comparison_terminals (comparison_of c.args.conjunction.now.first) ++ rest) and_before c.args.conjunction.now.more.items c.args.out.now.items c.put_comparison.new.out.items
    (conjunction_split (comparison_of c.args.conjunction.now.first) c.args.conjunction.now.more.items) c.in_ok-put_comparison.ensures

pub put_conjunction-others-preserved : goal.put_conjunction-others-preserved
put_conjunction-others-preserved t c =
    let items = c.args.conjunction.now.more.items in
    let inside : c.others.comparison-index < length items = rw (← c.deref-comparison-items.ensures.value) c.others-test.true in
    let is : c.comparison-item.result ≡ get_or items c.others.comparison-index c.comparison-item.result = rw (← c.deref-comparison-items.ensures.value) c.comparison-item.is in
    up_to_more _ and_before items c.others.comparison-index c.comparison-item.result c.comparison-item.result c.args.out.now.items c.others.out.items c.put_comparison-in-others.new.out.items
    c.others.invariant inside is
    (λ rest whole h. c.in_ok-put_comparison-2.ensures rest whole (c.in_ok-put_keyword.ensures.reserved (comparison_terminals (comparison_of c.comparison-item.result) ++ rest) whole h))

pub put_conjunction-returns : goal.put_conjunction-returns
put_conjunction-returns t c =
    let past : length c.args.conjunction.now.more.items ≤ c.others.comparison-index = rw (← c.deref-comparison-items.ensures.value) c.others-test.false in
    up_to_all _ and_before c.args.conjunction.now.more.items c.others.comparison-index c.args.out.now.items c.others.out.items c.others.invariant past

pub put_sum-others-init : goal.put_sum-others-init
put_sum-others-init t c =
    up_to_first _ (λ rest. term_terminals (term_of c.args.sum.now.first) ++ rest) added_before c.args.sum.now.more.items c.args.out.now.items c.put_term.new.out.items
    (sum_split (term_of c.args.sum.now.first) c.args.sum.now.more.items) c.in_ok-put_term.ensures

pub put_sum-others-preserved : goal.put_sum-others-preserved
put_sum-others-preserved t c =
    let items = c.args.sum.now.more.items in
    let inside : c.others.operator-index < length items = rw (← c.deref-operator-items.ensures.value) c.others-test.true in
    let is : c.others-item.result ≡ get_or items c.others.operator-index c.others-item.result = rw (← c.deref-operator-items.ensures.value) c.others-item.is in
    up_to_more _ added_before items c.others.operator-index c.others-item.result c.others-item.result c.args.out.now.items c.others.out.items c.put_term-in-others.new.out.items
    c.others.invariant inside is
    (λ rest whole h. c.in_ok-put_term-2.ensures rest whole (c.in_ok-put_addition.ensures (term_terminals (term_of c.others-item.result.1) ++ rest) whole h))

pub put_sum-returns : goal.put_sum-returns
put_sum-returns t c =
    let past : length c.args.sum.now.more.items ≤ c.others.operator-index = rw (← c.deref-operator-items.ensures.value) c.others-test.false in
    up_to_all _ added_before c.args.sum.now.more.items c.others.operator-index c.args.out.now.items c.others.out.items c.others.invariant past

pub put_term-others-init : goal.put_term-others-init
put_term-others-init t c =
    up_to_first _ (λ rest. unary_terminals (unary_of c.args.term.now.first) ++ rest) multiplied_before c.args.term.now.more.items c.args.out.now.items c.put_unary.new.out.items
    (term_split (unary_of c.args.term.now.first) c.args.term.now.more.items) c.in_ok-put_unary.ensures

pub put_term-others-preserved : goal.put_term-others-preserved
put_term-others-preserved t c =
    let items = c.args.term.now.more.items in
    let inside : c.others.operator-index < length items = rw (← c.deref-operator-items.ensures.value) c.others-test.true in
    let is : c.others-item.result ≡ get_or items c.others.operator-index c.others-item.result = rw (← c.deref-operator-items.ensures.value) c.others-item.is in
    up_to_more _ multiplied_before items c.others.operator-index c.others-item.result c.others-item.result c.args.out.now.items c.others.out.items c.put_unary-in-others.new.out.items
    c.others.invariant inside is
    (λ rest whole h. c.in_ok-put_unary-2.ensures rest whole (c.in_ok-put_multiplication.ensures (unary_terminals (unary_of c.others-item.result.1) ++ rest) whole h))

pub put_term-returns : goal.put_term-returns
put_term-returns t c =
    let past : length c.args.term.now.more.items ≤ c.others.operator-index = rw (← c.deref-operator-items.ensures.value) c.others-test.false in
    up_to_all _ multiplied_before c.args.term.now.more.items c.others.operator-index c.args.out.now.items c.others.out.items c.others.invariant past

pub put_expression-others-init : goal.put_expression-others-init
put_expression-others-init t c =
    up_to_first _ (λ rest. conjunction_terminals (conjunction_of c.expression.inside.first) ++ rest) or_before c.deref-conjunction-items.result.now c.args.out.now.items c.put_conjunction.new.out.items
    (λ rest. ap (λ e. expression_terminals e ++ rest) (sym c.expression.view_is)
    ∙ expression_split (conjunction_of c.expression.inside.first) c.expression.inside.more.items rest
    ∙ ap (λ xs. conjunction_terminals (conjunction_of c.expression.inside.first) ++ each_before or_before xs rest) (sym c.deref-conjunction-items.ensures.value))
    c.in_ok-put_conjunction.ensures

pub put_expression-others-preserved : goal.put_expression-others-preserved
put_expression-others-preserved t c =
    up_to_more _ or_before c.deref-conjunction-items.result.now c.others.conjunction-index c.conjunction-item.result c.conjunction-item.result c.args.out.now.items c.others.out.items
    c.put_conjunction-in-others.new.out.items
    c.others.invariant c.others-test.true c.conjunction-item.is
    (λ rest whole h. c.in_ok-put_conjunction-2.ensures rest whole (c.in_ok-put_keyword.ensures.reserved (conjunction_terminals (conjunction_of c.conjunction-item.result) ++ rest) whole h))

pub put_expression-returns : goal.put_expression-returns
put_expression-returns t c =
    up_to_all _ or_before c.deref-conjunction-items.result.now c.others.conjunction-index c.args.out.now.items c.others.out.items c.others.invariant c.others-test.false

pub put_unary-returns : goal.put_unary-returns
put_unary-returns t c =
    let signs = c.args.unary.now.signs.items in
    let p = primary_of c.args.unary.now.primary in
    on_ok_weaker c.put_primary.result (λ puts rest whole h.
    puts rest whole (c.in_ok-put_signs.ensures (primary_terminals p ++ rest) whole
    (completes_same c.args.out.now.items whole _ _ (unary_split signs p rest ∙ ap (λ s. signs_before s (primary_terminals p ++ rest)) (sym c.deref.ensures.value)) h)))
    c.put_primary.ensures

pub put_primary-returns-in_ok-put_expression-in-Entry : goal.put_primary-returns-in_ok-put_expression-in-Entry
put_primary-returns-in_ok-put_expression-in-Entry t c =
    let inside = expression_terminals c.deref.result.now in
    on_ok_weaker c.put_symbol-in-Entry.result (λ puts rest whole h.
    puts rest whole (puts_all_but inside (OfSymbol symbol.CloseBracket) c.put_symbol.new.out.items c.put_expression.new.out.items c.in_ok-put_expression-in-Entry.ensures rest whole
    (c.in_ok-put_symbol-in-Entry.ensures ((inside ++ OfSymbol symbol.CloseBracket ∷ []) ++ rest) whole
    (c.in_ok-put_name-in-Entry.ensures (OfSymbol symbol.OpenBracket ∷ ((inside ++ OfSymbol symbol.CloseBracket ∷ []) ++ rest)) whole
    (rw (c.in-Entry.is, ← c.deref.ensures) at h)))))
    c.put_symbol-in-Entry.ensures

pub put_primary-returns-in_ok-put_expression-in-Parentheses : goal.put_primary-returns-in_ok-put_expression-in-Parentheses
put_primary-returns-in_ok-put_expression-in-Parentheses t c =
    let inside = expression_terminals c.deref-in-Parentheses.result.now in
    on_ok_weaker c.put_symbol-in-Parentheses-2.result (λ puts rest whole h.
    puts rest whole
    (puts_all_but inside
    (OfSymbol symbol.CloseParenthesis) c.put_symbol-in-Parentheses.new.out.items c.put_expression-in-Parentheses.new.out.items c.in_ok-put_expression-in-Parentheses.ensures rest whole
    (c.in_ok-put_symbol-in-Parentheses.ensures ((inside ++ OfSymbol symbol.CloseParenthesis ∷ []) ++ rest) whole
    (rw (c.in-Parentheses.is, ← c.deref-in-Parentheses.ensures) at h))))
    c.put_symbol-in-Parentheses-2.ensures
