-- Beside `Access`: definitions that no public contract cites.
use Rattle.std.specs.Prelude.{ℕ, List, Option}
use Rattle.typed_tree.specs.IntExpressionTree.{IntExpressionTree}
use Rattle.typed_tree.specs.Fold.{integer_fold, condition_fold, step_fold, steps_fold, steps_fold_where}
use Rattle.typed_tree.specs.Independence.{used, written}
use Rattle.typed_tree.specs.BoolExpressionTree.{BoolExpressionTree}
use Rattle.typed_tree.specs.FunctionStatementTree.{FunctionStatementTree, FunctionStatementsTree, FunctionTree}

-- the vectors of which the expression reads entries
abbrev pub integer_reads : IntExpressionTree → List ℕ
integer_reads e = integer_fold used e

abbrev pub condition_reads : BoolExpressionTree → List ℕ
condition_reads c = condition_fold used c

-- the vectors of which statements read or write entries
abbrev pub step_uses : FunctionStatementTree → List ℕ
step_uses step = step_fold used step

abbrev pub steps_use : FunctionStatementsTree → List ℕ
steps_use steps = steps_fold used steps

-- the vectors of which statements write entries
abbrev pub step_writes : FunctionStatementTree → List ℕ
step_writes step = step_fold written step

abbrev pub steps_write : FunctionStatementsTree → List ℕ
steps_write steps = steps_fold written steps

-- what the function at an index uses and writes; one that is not there uses nothing
abbrev pub steps_use_where : Option FunctionTree → List ℕ
steps_use_where f = steps_fold_where used f

abbrev pub steps_write_where : Option FunctionTree → List ℕ
steps_write_where f = steps_fold_where written f
