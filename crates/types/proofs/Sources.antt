-- The trees of statements of a source that hold blocks.
use Rattle.std.proofs.Common.{◌≡◌, ℕ, ap, refl, rules}
use Rattle.std.specs.Global.{Vec}
use Rattle.syntax.specs.SourceTrees.{ExpressionTree, While, For, If, IfElse, Then}
use Rattle.syntax.specs.declared.statement.ForLoop.{ForLoop, ForLoop', out-ForLoop}
use Rattle.syntax.specs.declared.statement.Statement.{Statement}
use Rattle.syntax.specs.declared.statement.Action.{Row_of-Statement, end_of-Statement, more_of-Statement, items-the_row-Statement}
use Rattle.syntax.specs.declared.statement.Action.TheViews as views
use Rattle.syntax.specs.declared.statement.Action.TheViews.{the_lemmas}
use Rattle.syntax.specs.SourceViews.{statement_kind_tree, for_loop_tree, rows_tree, block_tree}

pub rows_tree-items : {m : _} (row : Row_of-Statement m) → rows_tree row ≡ block_tree (items-the_row-Statement m row)
rows_tree-items end_of-Statement = refl
rows_tree-items (more_of-Statement label action rest) = ap (Then label (statement_kind_tree action)) (rows_tree-items rest)

pub statement_kind_tree-While : (at : ℕ) (test : ExpressionTree) (body : Vec Statement) → statement_kind_tree (views.While at test body) ≡ While at test (block_tree body.items)
statement_kind_tree-While at test body = search (rules, the_lemmas, rows_tree-items)

pub for_loop_tree-block : (f : ForLoop) → for_loop_tree f
    ≡ For (out-ForLoop f).at (out-ForLoop f).name (out-ForLoop f).first (out-ForLoop f).limit (block_tree (out-ForLoop f).body.items)
for_loop_tree-block (ForLoop' at name first limit m body) = search (rules, the_lemmas, rows_tree-items)

pub statement_kind_tree-If : (at : ℕ) (test : ExpressionTree) (body : Vec Statement) → statement_kind_tree (views.If at test body) ≡ If at test (block_tree body.items)
statement_kind_tree-If at test body = search (rules, the_lemmas, rows_tree-items)

pub statement_kind_tree-IfElse : (at : ℕ) (test : ExpressionTree) (body otherwise : Vec Statement)
    → statement_kind_tree (views.IfElse at test body otherwise) ≡ IfElse at test (block_tree body.items) (block_tree otherwise.items)
statement_kind_tree-IfElse at test body otherwise = search (rules, the_lemmas, rows_tree-items)
