-- Beside `BoolExpressionTree`: definitions that no public contract cites.
use Rattle.std.specs.Prelude.{[], List, ◌∷◌}
use Rattle.typed_tree.specs.declared.expression.Connective.{Connective}
use Rattle.typed_tree.specs.declared.expression.BoolExpression.{BoolExpression}
use Rattle.typed_tree.specs.BoolExpressionTree.{BoolExpressionTree, Connect, bool_expression_tree}

-- a condition with those of a list that follows it, joined by `and` or `or`
abbrev pub conditions_tree : Connective → BoolExpressionTree → List BoolExpression → BoolExpressionTree
conditions_tree connective left [] = left
conditions_tree connective left (c ∷ rest) = conditions_tree connective (Connect connective left (bool_expression_tree c)) rest
