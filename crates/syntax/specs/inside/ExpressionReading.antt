-- Beside `ExpressionReading`: definitions that no public contract cites.
use Rattle.std.specs.Prelude.{ℕ, zero, suc}
use Rattle.syntax.specs.SourceTrees.{ExpressionTree}
use Rattle.syntax.specs.ExpressionReading.{Reader, no_expression, expression_at}

-- where one more is opened
abbrev pub expression_in : ℕ → Reader ExpressionTree
expression_in zero = no_expression
expression_in (suc depth) = expression_at depth
