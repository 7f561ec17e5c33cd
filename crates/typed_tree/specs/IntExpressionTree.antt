-- Expressions of type int, without pointers.
use Rattle.std.specs.Prelude.{ℕ, zero, suc, ℤ}
use Rattle.typed_tree.specs.declared.expression.VarRef.{VarRef}
use Rattle.typed_tree.specs.declared.expression.Endpoint.{Endpoint}
use Rattle.typed_tree.specs.declared.expression.Operator.{Operator}
use Rattle.typed_tree.specs.declared.expression.IntExpression.{IntExpression, Row_of-Operand, end_of-Operand, more_of-Operand}
use Rattle.typed_tree.specs.declared.expression.IntExpression.TheVariants as rust

pub data IntExpressionTree : Type 0 where
  Number : (value : ℤ) → IntExpressionTree
  Constant : (name : ℕ) → (value : ℤ) → IntExpressionTree
  Variable : (slot : VarRef) → IntExpressionTree
  Parameter : (at : Endpoint) → IntExpressionTree
  Weight : IntExpressionTree
  EntryAt : (vector : ℕ) → (at : Endpoint) → IntExpressionTree
  Entry : (vector : ℕ) → (index : IntExpressionTree) → IntExpressionTree
  SetSize : (slot : VarRef) → IntExpressionTree
  Negative : IntExpressionTree → IntExpressionTree
  Arithmetic : Operator → (left right : IntExpressionTree) → IntExpressionTree

-- the tree after n signs
abbrev pub negated : ℕ → IntExpressionTree → IntExpressionTree
negated zero e = e
negated (suc n) e = Negative (negated n e)

-- the tree that a Rust tree is; operators of one level are grouped from the left
abbrev mutual
  pub int_expression_tree : IntExpression → IntExpressionTree
  int_expression_tree (rust.Number n) = Number n
  int_expression_tree (rust.Constant name n) = Constant name n
  int_expression_tree (rust.Variable slot) = Variable slot
  int_expression_tree (rust.Parameter at) = Parameter at
  int_expression_tree rust.Weight = Weight
  int_expression_tree (rust.EntryAt vector at) = EntryAt vector at
  int_expression_tree (rust.Entry' vector p index) = Entry vector (int_expression_tree index)
  int_expression_tree (rust.SetSize slot) = SetSize slot
  int_expression_tree (rust.Negative' signs p e) = negated signs (int_expression_tree e)
  int_expression_tree (rust.Arithmetic' p first shape operands) = operands_row (int_expression_tree first) operands

  -- an expression with the operators and operands that follow it inside an expression
  pub operands_row : {n : _} → IntExpressionTree → Row_of-Operand n → IntExpressionTree
  operands_row left end_of-Operand = left
  operands_row left (more_of-Operand operator e rest) = operands_row (Arithmetic operator left (int_expression_tree e)) rest
