-- Beside `ExpressionViews`: definitions that no public contract cites.
use Rattle.std.specs.Prelude.{map, Option, Some, None}
use Rattle.std.specs.Global.{Box}
use Rattle.syntax.specs.declared.expression.Term.{Term}
use Rattle.syntax.specs.SourceTrees.{TermTree, SumTree, ComparisonTree, OneSum, TwoSums, ConjunctionTree}
use Rattle.syntax.specs.ExpressionViews.{unary_of, term_from, sum_from, conjunction_from}
use Rattle.syntax.specs.declared.expression.Sum.{Sum}
use Rattle.syntax.specs.declared.operators.Relation.{Relation}
use Rattle.syntax.specs.declared.expression.Comparison.{Comparison}
use Rattle.syntax.specs.declared.expression.Conjunction.{Conjunction}

abbrev pub term_of : Term → TermTree
term_of t = term_from (unary_of t.first) (map (λ m. (m.0, unary_of m.1)) t.more.items)

abbrev pub sum_of : Sum → SumTree
sum_of s = sum_from (term_of s.first) (map (λ m. (m.0, term_of m.1)) s.more.items)

abbrev pub comparison_from : SumTree → Option (Relation × Box Sum) → ComparisonTree
comparison_from left None = OneSum left
comparison_from left (Some (relation, right)) = TwoSums left relation (sum_of right.value)

abbrev pub comparison_of : Comparison → ComparisonTree
comparison_of c = comparison_from (sum_of c.left) c.right

abbrev pub conjunction_of : Conjunction → ConjunctionTree
conjunction_of c = conjunction_from (comparison_of c.first) (map comparison_of c.more.items)
