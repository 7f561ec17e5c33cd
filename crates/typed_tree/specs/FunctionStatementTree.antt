-- Statements of functions, and functions, without pointers.
use Rattle.std.specs.Prelude.{ℕ, List, [], ◌∷◌}
use Rattle.apply_options.specs.declared.reduction.Reduction.{Reduction}
use Rattle.typed_tree.specs.declared.expression.VarRef.{VarRef}
use Rattle.typed_tree.specs.declared.function.FunctionStatement.{FunctionStatement, Row_of-FunctionStatement, end_of-FunctionStatement}
use Rattle.typed_tree.specs.declared.function.FunctionStatement.{more_of-FunctionStatement}
use Rattle.typed_tree.specs.declared.function.FunctionStatement.TheVariants as rust
use Rattle.typed_tree.specs.declared.function.VariableStatement.{VariableStatement}
use Rattle.typed_tree.specs.declared.function.VariableStatement.TheVariants as variable
use Rattle.typed_tree.specs.declared.function.Function.{Function}
use Rattle.typed_tree.specs.IntExpressionTree.{IntExpressionTree, int_expression_tree}
use Rattle.typed_tree.specs.BoolExpressionTree.{BoolExpressionTree, bool_expression_tree}

mutual
  -- a statement of a function
  pub data FunctionStatementTree : Type 0 where
    DeclareInt : (name : ℕ) → IntExpressionTree → FunctionStatementTree
    DeclareBool : (name : ℕ) → BoolExpressionTree → FunctionStatementTree
    SetInt : VarRef → IntExpressionTree → FunctionStatementTree
    SetBool : VarRef → BoolExpressionTree → FunctionStatementTree
    ReduceInt : VarRef → Reduction → IntExpressionTree → FunctionStatementTree
    SetEntry : (vector : ℕ) → (value : IntExpressionTree) → FunctionStatementTree
    ReduceEntry : (vector : ℕ) → Reduction → (value : IntExpressionTree) → FunctionStatementTree
    If : BoolExpressionTree → FunctionStatementsTree → FunctionStatementTree
    IfElse : BoolExpressionTree → (body other : FunctionStatementsTree) → FunctionStatementTree

  -- statements in order
  pub data FunctionStatementsTree : Type 0 where
    NoStep : FunctionStatementsTree
    StepThen : FunctionStatementTree → FunctionStatementsTree → FunctionStatementsTree

-- a function of a user
pub record FunctionTree : Type 0 where
  pub name : ℕ
  pub steps : FunctionStatementsTree

-- the tree of a statement that declares a variable or changes one
abbrev pub variable_statement_tree : VariableStatement → FunctionStatementTree
variable_statement_tree (variable.DeclareInt name e) = DeclareInt name (int_expression_tree e)
variable_statement_tree (variable.DeclareBool name c) = DeclareBool name (bool_expression_tree c)
variable_statement_tree (variable.SetInt slot e) = SetInt slot (int_expression_tree e)
variable_statement_tree (variable.SetBool slot c) = SetBool slot (bool_expression_tree c)
variable_statement_tree (variable.ReduceInt slot reduction e) = ReduceInt slot reduction (int_expression_tree e)

-- the tree that a Rust tree is
abbrev mutual
  pub function_statement_tree : FunctionStatement → FunctionStatementTree
  function_statement_tree (rust.Variable s) = variable_statement_tree s
  function_statement_tree (rust.SetEntry vector e) = SetEntry vector (int_expression_tree e)
  function_statement_tree (rust.ReduceEntry vector reduction e) = ReduceEntry vector reduction (int_expression_tree e)
  function_statement_tree (rust.If' c shape body) = If (bool_expression_tree c) (steps_row body)
  function_statement_tree (rust.IfElse' c shape body shape' other) = IfElse (bool_expression_tree c) (steps_row body) (steps_row other)

  -- the statements of a block inside a statement
  pub steps_row : {n : _} → Row_of-FunctionStatement n → FunctionStatementsTree
  steps_row end_of-FunctionStatement = NoStep
  steps_row (more_of-FunctionStatement step rest) = StepThen (function_statement_tree step) (steps_row rest)

abbrev pub function_statements_tree : List FunctionStatement → FunctionStatementsTree
function_statements_tree [] = NoStep
function_statements_tree (step ∷ rest) = StepThen (function_statement_tree step) (function_statements_tree rest)

abbrev pub function_tree : Function → FunctionTree
function_tree f = record { name = f.name; steps = function_statements_tree f.steps.items }
