-- Beside `IntExpressionTree`: definitions that no public contract cites.
use Rattle.std.specs.Prelude.{[], List, ◌∷◌}
use Rattle.typed_tree.specs.declared.expression.Operand.{Operand}
use Rattle.typed_tree.specs.IntExpressionTree.{IntExpressionTree, Arithmetic, int_expression_tree}

-- an expression with the operators and operands of a list that follows it
abbrev pub operands_tree : IntExpressionTree → List Operand → IntExpressionTree
operands_tree left [] = left
operands_tree left (o ∷ rest) = operands_tree (Arithmetic o.operator left (int_expression_tree o.integer)) rest
