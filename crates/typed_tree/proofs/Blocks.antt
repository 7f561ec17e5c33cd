-- The trees of statements that hold blocks.
use Rattle.std.proofs.Common.{◌≡◌, ℕ, ap, refl, rules}
use Rattle.std.specs.Global.{Vec}
use Rattle.typed_tree.specs.declared.expression.BoolExpression.{BoolExpression}
use Rattle.typed_tree.specs.declared.expression.IntExpression.{IntExpression}
use Rattle.typed_tree.specs.declared.statement.MainStatement.{MainStatement}
use Rattle.typed_tree.specs.declared.statement.StatementKind.{Row_of-MainStatement, end_of-MainStatement, more_of-MainStatement, items-the_row-MainStatement}
use Rattle.typed_tree.specs.declared.statement.StatementKind.TheViews as views
use Rattle.typed_tree.specs.declared.statement.StatementKind.TheViews.{the_lemmas}
use Rattle.typed_tree.specs.IntExpressionTree.{int_expression_tree}
use Rattle.typed_tree.specs.BoolExpressionTree.{bool_expression_tree}
use Rattle.typed_tree.specs.BlockTree.{statement_kind_tree, row_tree, block_tree, Then, If, IfElse, While, For}

pub row_tree-items : {n : _} (row : Row_of-MainStatement n) → row_tree row ≡ block_tree (items-the_row-MainStatement n row)
row_tree-items end_of-MainStatement = refl
row_tree-items (more_of-MainStatement number label action rest) = ap (Then number label (statement_kind_tree action)) (row_tree-items rest)

pub statement_kind_tree-If : (c : BoolExpression) (body : Vec MainStatement) → statement_kind_tree (views.If c body) ≡ If (bool_expression_tree c) (block_tree body.items)
statement_kind_tree-If c body = search (rules, the_lemmas, row_tree-items)

pub statement_kind_tree-IfElse : (c : BoolExpression) (body other : Vec MainStatement)
    → statement_kind_tree (views.IfElse c body other) ≡ IfElse (bool_expression_tree c) (block_tree body.items) (block_tree other.items)
statement_kind_tree-IfElse c body other = search (rules, the_lemmas, row_tree-items)

pub statement_kind_tree-While : (c : BoolExpression) (body : Vec MainStatement) → statement_kind_tree (views.While c body) ≡ While (bool_expression_tree c) (block_tree body.items)
statement_kind_tree-While c body = search (rules, the_lemmas, row_tree-items)

pub statement_kind_tree-For : (name : ℕ) (first end : IntExpression) (body : Vec MainStatement)
    → statement_kind_tree (views.For name first end body) ≡ For name (int_expression_tree first) (int_expression_tree end) (block_tree body.items)
statement_kind_tree-For name first end body = search (rules, the_lemmas, row_tree-items)
