use Rattle.std.proofs.Common.{◌++◌}
use Rattle.syntax.specs.inside.ExpressionViews.{conjunction_of, sum_of, term_of}
use Rattle.syntax.specs.ExpressionSpelling.{conjunction_terminals, expression_terminals, sum_terminals, term_terminals}
use Rattle.source_text.specs.inside.Written.{PutsUpTo}
use Rattle.source_text.proofs.Levels.{or_before, and_before, added_before, multiplied_before}
use Rattle.source_text.proofs.expression.+expressions.Given as goal

abbrev pub invariant-put_conjunction-others : goal.invariant-put_conjunction-others
invariant-put_conjunction-others l =
    PutsUpTo (λ rest. conjunction_terminals (conjunction_of l.conjunction) ++ rest) and_before l.conjunction.more.items l.comparison-index l.fn.out.items l.out.items

abbrev pub invariant-put_expression-others : goal.invariant-put_expression-others
invariant-put_expression-others l =
    PutsUpTo (λ rest. expression_terminals l.expression ++ rest) or_before l.conjunction-items l.conjunction-index l.fn.out.items l.out.items

abbrev pub invariant-put_sum-others : goal.invariant-put_sum-others
invariant-put_sum-others l =
    PutsUpTo (λ rest. sum_terminals (sum_of l.sum) ++ rest) added_before l.sum.more.items l.operator-index l.fn.out.items l.out.items

abbrev pub invariant-put_term-others : goal.invariant-put_term-others
invariant-put_term-others l =
    PutsUpTo (λ rest. term_terminals (term_of l.term) ++ rest) multiplied_before l.term.more.items l.operator-index l.fn.out.items l.out.items
