-- The trees of statements of functions that hold blocks.
use Rattle.std.proofs.Common.{◌≡◌, ap, refl, rules}
use Rattle.std.specs.Global.{Vec}
use Rattle.typed_tree.specs.declared.expression.BoolExpression.{BoolExpression}
use Rattle.typed_tree.specs.declared.function.FunctionStatement.{FunctionStatement, Row_of-FunctionStatement, end_of-FunctionStatement, more_of-FunctionStatement, items-the_row-FunctionStatement}
use Rattle.typed_tree.specs.declared.function.FunctionStatement.TheViews as views
use Rattle.typed_tree.specs.declared.function.FunctionStatement.TheViews.{the_lemmas}
use Rattle.typed_tree.specs.BoolExpressionTree.{bool_expression_tree}
use Rattle.typed_tree.specs.FunctionStatementTree.{function_statement_tree, steps_row, function_statements_tree, StepThen, If, IfElse}

pub steps_row-items : {n : _} (row : Row_of-FunctionStatement n) → steps_row row ≡ function_statements_tree (items-the_row-FunctionStatement n row)
steps_row-items end_of-FunctionStatement = refl
steps_row-items (more_of-FunctionStatement step rest) = ap (StepThen (function_statement_tree step)) (steps_row-items rest)

pub function_statement_tree-If : (c : BoolExpression) (body : Vec FunctionStatement) → function_statement_tree (views.If c body) ≡ If (bool_expression_tree c) (function_statements_tree body.items)
function_statement_tree-If c body = search (rules, the_lemmas, steps_row-items)

pub function_statement_tree-IfElse : (c : BoolExpression) (body other : Vec FunctionStatement)
    → function_statement_tree (views.IfElse c body other) ≡ IfElse (bool_expression_tree c) (function_statements_tree body.items) (function_statements_tree other.items)
function_statement_tree-IfElse c body other = search (rules, the_lemmas, steps_row-items)
