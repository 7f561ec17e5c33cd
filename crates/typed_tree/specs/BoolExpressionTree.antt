-- Expressions of type bool, without pointers.
use Rattle.std.specs.Prelude.{ℕ, zero, suc, Bool}
use Rattle.typed_tree.specs.declared.expression.VarRef.{VarRef}
use Rattle.typed_tree.specs.declared.expression.ComparisonOperator.{ComparisonOperator}
use Rattle.typed_tree.specs.declared.expression.Connective.{Connective}
use Rattle.typed_tree.specs.declared.expression.BoolExpression.{BoolExpression, Row_of-BoolExpression, end_of-BoolExpression, more_of-BoolExpression}
use Rattle.typed_tree.specs.IntExpressionTree.{IntExpressionTree, int_expression_tree}
use Rattle.typed_tree.specs.declared.expression.BoolExpression.TheVariants as rust

pub data BoolExpressionTree : Type 0 where
  Literal : (value : Bool) → BoolExpressionTree
  Constant : (name : ℕ) → (value : Bool) → BoolExpressionTree
  Variable : (slot : VarRef) → BoolExpressionTree
  Not : BoolExpressionTree → BoolExpressionTree
  Compare : ComparisonOperator → (left right : IntExpressionTree) → BoolExpressionTree
  Connect : Connective → (left right : BoolExpressionTree) → BoolExpressionTree

-- the tree inverted so many times
abbrev pub inverted : ℕ → BoolExpressionTree → BoolExpressionTree
inverted zero c = c
inverted (suc n) c = Not (inverted n c)

-- the tree that a Rust tree is; operators of one level are grouped from the left
abbrev mutual
  pub bool_expression_tree : BoolExpression → BoolExpressionTree
  bool_expression_tree (rust.Literal b) = Literal b
  bool_expression_tree (rust.Constant name b) = Constant name b
  bool_expression_tree (rust.Variable slot) = Variable slot
  bool_expression_tree (rust.Not' nots p c) = inverted nots (bool_expression_tree c)
  bool_expression_tree (rust.Compare comparison left right) = Compare comparison (int_expression_tree left) (int_expression_tree right)
  bool_expression_tree (rust.Connect' connective p first shape conditions) = conditions_row connective (bool_expression_tree first) conditions

  -- a condition with those that follow it inside an expression, joined by `and` or `or`
  pub conditions_row : {n : _} → Connective → BoolExpressionTree → Row_of-BoolExpression n → BoolExpressionTree
  conditions_row connective left end_of-BoolExpression = left
  conditions_row connective left (more_of-BoolExpression c rest) = conditions_row connective (Connect connective left (bool_expression_tree c)) rest
