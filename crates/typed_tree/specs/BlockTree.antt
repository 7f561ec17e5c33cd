-- Statements of main, without pointers.
use Rattle.std.specs.Prelude.{ℕ, List, [], ◌∷◌, Option}
use Rattle.typed_tree.specs.declared.expression.VarRef.{VarRef}
use Rattle.apply_options.specs.declared.reduction.Reduction.{Reduction}
use Rattle.typed_tree.specs.declared.statement.StatementKind.{StatementKind, Row_of-MainStatement, end_of-MainStatement, more_of-MainStatement}
use Rattle.typed_tree.specs.declared.statement.StatementKind.TheVariants as rust
use Rattle.typed_tree.specs.declared.statement.SimpleStatement.{SimpleStatement}
use Rattle.typed_tree.specs.declared.statement.SimpleStatement.TheVariants as simple
use Rattle.typed_tree.specs.declared.statement.ValueStatement.{ValueStatement}
use Rattle.typed_tree.specs.declared.statement.ValueStatement.TheVariants as value
use Rattle.typed_tree.specs.declared.statement.ApplyEnds.{ApplyEnds}
use Rattle.typed_tree.specs.declared.statement.SetValue.{SetValue}
use Rattle.typed_tree.specs.declared.statement.MainStatement.{MainStatement}
use Rattle.typed_tree.specs.IntExpressionTree.{IntExpressionTree, int_expression_tree}
use Rattle.typed_tree.specs.BoolExpressionTree.{BoolExpressionTree, bool_expression_tree}

-- what a statement without a block does
pub data SimpleStatementTree : Type 0 where
  DeclareInt : (name : ℕ) → IntExpressionTree → SimpleStatementTree
  DeclareBool : (name : ℕ) → BoolExpressionTree → SimpleStatementTree
  SetInt : VarRef → IntExpressionTree → SimpleStatementTree
  SetBool : VarRef → BoolExpressionTree → SimpleStatementTree
  ReduceInt : VarRef → Reduction → IntExpressionTree → SimpleStatementTree
  SetEntry : (vector : ℕ) → (index value : IntExpressionTree) → SimpleStatementTree
  ReduceEntry : (vector : ℕ) → (index : IntExpressionTree) → Reduction → (value : IntExpressionTree) → SimpleStatementTree
  DeclareSet : (name : ℕ) → SetValue → SimpleStatementTree
  AssignSet : VarRef → SetValue → SimpleStatementTree
  AddVertex : VarRef → IntExpressionTree → SimpleStatementTree
  PrintInt : IntExpressionTree → SimpleStatementTree
  PrintBool : BoolExpressionTree → SimpleStatementTree
  ApplyVertex : (set : VarRef) → (function : ℕ) → SimpleStatementTree
  ApplyEdges : ApplyEnds → (function : ℕ) → SimpleStatementTree

mutual
  -- what a statement does
  pub data StatementKindTree : Type 0 where
    Simple : SimpleStatementTree → StatementKindTree
    If : BoolExpressionTree → BlockTree → StatementKindTree
    IfElse : BoolExpressionTree → (body other : BlockTree) → StatementKindTree
    While : BoolExpressionTree → BlockTree → StatementKindTree
    For : (name : ℕ) → (first end : IntExpressionTree) → BlockTree → StatementKindTree

  -- statements in order, each with its number and its label
  pub data BlockTree : Type 0 where
    Empty : BlockTree
    Then : (number : ℕ) → (label : Option ℕ) → StatementKindTree → BlockTree → BlockTree

-- the tree of a statement that takes a value
abbrev pub value_statement_tree : ValueStatement → SimpleStatementTree
value_statement_tree (value.DeclareInt name e) = DeclareInt name (int_expression_tree e)
value_statement_tree (value.DeclareBool name c) = DeclareBool name (bool_expression_tree c)
value_statement_tree (value.SetInt slot e) = SetInt slot (int_expression_tree e)
value_statement_tree (value.SetBool slot c) = SetBool slot (bool_expression_tree c)
value_statement_tree (value.ReduceInt slot reduction e) = ReduceInt slot reduction (int_expression_tree e)
value_statement_tree (value.AddVertex slot e) = AddVertex slot (int_expression_tree e)
value_statement_tree (value.PrintInt e) = PrintInt (int_expression_tree e)
value_statement_tree (value.PrintBool c) = PrintBool (bool_expression_tree c)

-- the tree of a statement without a block
abbrev pub simple_statement_tree : SimpleStatement → SimpleStatementTree
simple_statement_tree (simple.Value s) = value_statement_tree s
simple_statement_tree (simple.SetEntry vector index value) = SetEntry vector (int_expression_tree index) (int_expression_tree value)
simple_statement_tree (simple.ReduceEntry vector index reduction value) = ReduceEntry vector (int_expression_tree index) reduction (int_expression_tree value)
simple_statement_tree (simple.DeclareSet name set) = DeclareSet name set
simple_statement_tree (simple.AssignSet slot set) = AssignSet slot set
simple_statement_tree (simple.ApplyVertex set function) = ApplyVertex set function
simple_statement_tree (simple.ApplyEdges ends function) = ApplyEdges ends function

-- the tree that a Rust tree is
abbrev mutual
  pub statement_kind_tree : StatementKind → StatementKindTree
  statement_kind_tree (rust.Simple s) = Simple (simple_statement_tree s)
  statement_kind_tree (rust.If' c shape body) = If (bool_expression_tree c) (row_tree body)
  statement_kind_tree (rust.IfElse' c shape body shape' other) = IfElse (bool_expression_tree c) (row_tree body) (row_tree other)
  statement_kind_tree (rust.While' c shape body) = While (bool_expression_tree c) (row_tree body)
  statement_kind_tree (rust.For' name first end shape body) = For name (int_expression_tree first) (int_expression_tree end) (row_tree body)

  -- the statements of a block inside a statement
  pub row_tree : {n : _} → Row_of-MainStatement n → BlockTree
  row_tree end_of-MainStatement = Empty
  row_tree (more_of-MainStatement number label action rest) = Then number label (statement_kind_tree action) (row_tree rest)

abbrev pub block_tree : List MainStatement → BlockTree
block_tree [] = Empty
block_tree (s ∷ rest) = Then s.number s.label (statement_kind_tree s.action) (block_tree rest)
