use Rattle.std.proofs.Common.{◌+◌, ◌*◌, length, map}
use Rattle.parser.specs.inside.Readers.{terminals}
use Rattle.syntax.specs.ExpressionViews.{unary_of}
use Rattle.syntax.specs.inside.ExpressionViews.{term_of, comparison_of, conjunction_of}
use Rattle.syntax.specs.ExpressionReading.{operand_by, after_by, multiplication, addition, after_and, after_or, primary_at, unary_at, term_at, comparison_at, conjunction_at}
use Rattle.syntax.proofs.Loops.{Chain, Signs}
use Rattle.parser.proofs.expression.+read.Given as goal

abbrev pub decreases-inner : goal.decreases-inner
decreases-inner l = 9 * l.depth + 0

abbrev pub decreases-named : goal.decreases-named
decreases-named l = 9 * l.depth + 1

abbrev pub decreases-primary : goal.decreases-primary
decreases-primary l = 9 * l.depth + 2

abbrev pub decreases-unary : goal.decreases-unary
decreases-unary l = 9 * l.depth + 3

abbrev pub decreases-term : goal.decreases-term
decreases-term l = 9 * l.depth + 4

abbrev pub decreases-sum : goal.decreases-sum
decreases-sum l = 9 * l.depth + 5

abbrev pub decreases-comparison : goal.decreases-comparison
decreases-comparison l = 9 * l.depth + 6

abbrev pub decreases-conjunction : goal.decreases-conjunction
decreases-conjunction l = 9 * l.depth + 7

abbrev pub decreases-expression : goal.decreases-expression
decreases-expression l = 9 * l.depth + 8

abbrev pub invariant-expression-more : goal.invariant-expression-more
invariant-expression-more l =
    Chain (conjunction_at l.depth) (λ ws. after_by (conjunction_at l.depth) (after_or ws)) (terminals l.cursor) (conjunction_of l.first) (map conjunction_of l.more.items) (terminals l.left)

abbrev pub decreases-expression-more : goal.decreases-expression-more
decreases-expression-more l = length (terminals l.left)

abbrev pub invariant-conjunction-more : goal.invariant-conjunction-more
invariant-conjunction-more l =
    Chain (comparison_at l.depth) (λ ws. after_by (comparison_at l.depth) (after_and ws)) (terminals l.cursor) (comparison_of l.first) (map comparison_of l.more.items) (terminals l.left)

abbrev pub decreases-conjunction-more : goal.decreases-conjunction-more
decreases-conjunction-more l = length (terminals l.left)

abbrev pub invariant-sum-more : goal.invariant-sum-more
invariant-sum-more l =
    Chain (term_at l.depth) (λ ws. operand_by (term_at l.depth) (addition ws)) (terminals l.cursor) (term_of l.first) (map (λ m. (m.0, term_of m.1)) l.more.items) (terminals l.left)

abbrev pub decreases-sum-more : goal.decreases-sum-more
decreases-sum-more l = length (terminals l.left)

abbrev pub invariant-term-more : goal.invariant-term-more
invariant-term-more l =
    Chain (unary_at l.depth) (λ ws. operand_by (unary_at l.depth) (multiplication ws)) (terminals l.cursor) (unary_of l.first) (map (λ m. (m.0, unary_of m.1)) l.more.items) (terminals l.left)

abbrev pub decreases-term-more : goal.decreases-term-more
decreases-term-more l = length (terminals l.left)

abbrev pub invariant-unary-signs : goal.invariant-unary-signs
invariant-unary-signs l = Signs (primary_at l.depth) (terminals l.cursor) l.signs.items (terminals l.left)

abbrev pub decreases-unary-signs : goal.decreases-unary-signs
decreases-unary-signs l = length (terminals l.left)
