-- The trees of expressions that hold operands in a list.
use Rattle.std.proofs.Common.{◌≡◌, refl, rules, List, [], ◌∷◌, ◌++◌}
use Rattle.std.specs.Global.{Box, Vec}
use Rattle.typed_tree.specs.declared.expression.Connective.{Connective}
use Rattle.typed_tree.specs.declared.expression.Operand.{Operand}
use Rattle.typed_tree.specs.declared.expression.IntExpression.{IntExpression, Row_of-Operand, end_of-Operand, more_of-Operand, items-the_row-Operand}
use Rattle.typed_tree.specs.declared.expression.IntExpression.TheViews as integer_views
use Rattle.typed_tree.specs.declared.expression.IntExpression.TheViews.{the_lemmas}
use Rattle.typed_tree.specs.declared.expression.BoolExpression.{BoolExpression, Row_of-BoolExpression, end_of-BoolExpression, more_of-BoolExpression, items-the_row-BoolExpression}
use Rattle.typed_tree.specs.declared.expression.BoolExpression.TheViews as condition_views
use Rattle.typed_tree.specs.declared.expression.BoolExpression.TheViews.{the_lemmas as the_condition_lemmas}
use Rattle.typed_tree.specs.IntExpressionTree.{IntExpressionTree, Arithmetic, int_expression_tree, operands_row}
use Rattle.typed_tree.specs.inside.IntExpressionTree.{operands_tree}
use Rattle.typed_tree.specs.BoolExpressionTree.{BoolExpressionTree, Connect, bool_expression_tree, conditions_row}
use Rattle.typed_tree.specs.inside.BoolExpressionTree.{conditions_tree}

pub operands_row-items : {n : _} (left : IntExpressionTree) (row : Row_of-Operand n) → operands_row left row ≡ operands_tree left (items-the_row-Operand n row)
operands_row-items left end_of-Operand = refl
operands_row-items left (more_of-Operand operator e rest) = operands_row-items (Arithmetic operator left (int_expression_tree e)) rest

pub int_expression_tree-Arithmetic : (first : Box IntExpression) (operands : Vec Operand)
    → int_expression_tree (integer_views.Arithmetic first operands) ≡ operands_tree (int_expression_tree first.value) operands.items
int_expression_tree-Arithmetic first operands = search (rules, the_lemmas, operands_row-items)

pub conditions_row-items : {n : _} (connective : Connective) (left : BoolExpressionTree) (row : Row_of-BoolExpression n)
    → conditions_row connective left row ≡ conditions_tree connective left (items-the_row-BoolExpression n row)
conditions_row-items connective left end_of-BoolExpression = refl
conditions_row-items connective left (more_of-BoolExpression c rest) = conditions_row-items connective (Connect connective left (bool_expression_tree c)) rest

pub bool_expression_tree-Connect : (connective : Connective) (first : Box BoolExpression) (conditions : Vec BoolExpression)
    → bool_expression_tree (condition_views.Connect connective first conditions) ≡ conditions_tree connective (bool_expression_tree first.value) conditions.items
bool_expression_tree-Connect connective first conditions = search (rules, the_condition_lemmas, conditions_row-items)

-- one more operand takes what all before it gave
pub operands_tree_push : (left : IntExpressionTree) (operands : List Operand) (o : Operand)
    → operands_tree left (operands ++ o ∷ []) ≡ Arithmetic o.operator (operands_tree left operands) (int_expression_tree o.integer)
operands_tree_push left [] o = refl
operands_tree_push left (p ∷ operands) o = operands_tree_push (Arithmetic p.operator left (int_expression_tree p.integer)) operands o

pub conditions_tree_push : (connective : Connective) (left : BoolExpressionTree) (conditions : List BoolExpression) (c : BoolExpression)
    → conditions_tree connective left (conditions ++ c ∷ []) ≡ Connect connective (conditions_tree connective left conditions) (bool_expression_tree c)
conditions_tree_push connective left [] c = refl
conditions_tree_push connective left (d ∷ conditions) c = conditions_tree_push connective (Connect connective left (bool_expression_tree d)) conditions c
