-- Beside `Fusing`: definitions that no public contract cites.
use Rattle.std.specs.Prelude.{ℕ, List, Option, Bool}
use Rattle.typed_tree.specs.IntExpressionTree.{IntExpressionTree}
use Rattle.typed_tree.specs.Fold.{gathered, integer_fold, condition_fold, step_fold, steps_fold, steps_fold_where, all_pass}
use Rattle.typed_tree.specs.BoolExpressionTree.{BoolExpressionTree}
use Rattle.typed_tree.specs.FunctionStatementTree.{FunctionStatementTree, FunctionStatementsTree, FunctionTree}
use Rattle.plans.specs.Fusing.{set_of, is_local}

-- the vertex sets of which an expression reads the size
abbrev pub integer_sizes : IntExpressionTree → List ℕ
integer_sizes e = integer_fold (gathered set_of) e

abbrev pub condition_sizes : BoolExpressionTree → List ℕ
condition_sizes c = condition_fold (gathered set_of) c

-- the sets whose sizes statements of functions read
abbrev pub step_sizes : FunctionStatementTree → List ℕ
step_sizes step = step_fold (gathered set_of) step

abbrev pub steps_sizes : FunctionStatementsTree → List ℕ
steps_sizes steps = steps_fold (gathered set_of) steps

-- the sets whose sizes the function at an index reads
abbrev pub steps_sizes_where : Option FunctionTree → List ℕ
steps_sizes_where f = steps_fold_where (gathered set_of) f

-- so are all those of an expression
abbrev pub integer_is_local : IntExpressionTree → Bool
integer_is_local e = integer_fold (all_pass is_local) e

abbrev pub condition_is_local : BoolExpressionTree → Bool
condition_is_local c = condition_fold (all_pass is_local) c

-- whether statements of vertex functions read and write their own vertex alone
abbrev pub step_is_local : FunctionStatementTree → Bool
step_is_local step = step_fold (all_pass is_local) step

abbrev pub steps_are_local : FunctionStatementsTree → Bool
steps_are_local steps = steps_fold (all_pass is_local) steps

abbrev pub steps_are_local_where : Option FunctionTree → Bool
steps_are_local_where f = steps_fold_where (all_pass is_local) f
