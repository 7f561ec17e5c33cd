-- The trees of expressions and of sources, one constructor for each rule of the grammar, with the offset of the first token if no name
-- has it.
use Rattle.std.specs.Prelude.{ℕ, ℤ, List, Option, Bool}
use Rattle.apply_options.specs.declared.setting.Setting.{Setting}
use Rattle.apply_options.specs.declared.reduction.Reduction.{Reduction}
use Rattle.syntax.specs.Terminals.{Identifier}
use Rattle.syntax.specs.declared.declaration.DeclaredType.{DeclaredType}
use Rattle.syntax.specs.declared.operators.Addition.{Addition}
use Rattle.syntax.specs.declared.operators.Multiplication.{Multiplication}
use Rattle.syntax.specs.declared.operators.Prefix.{Prefix}
use Rattle.syntax.specs.declared.operators.Relation.{Relation}

-- a name and its type: a parameter of a function or its result, or what is declared
pub record ParameterTree : Type 0 where
  pub name : Identifier
  pub declared : DeclaredType

-- a vertex set or a filter for each end, where one is given
pub record EndsTree : Type 0 where
  pub from : Option Identifier
  pub to : Option Identifier

mutual
  -- conjunctions with `or` between them
  pub data ExpressionTree : Type 0 where
    LastConjunction : ConjunctionTree → ExpressionTree
    ConjunctionThen : ConjunctionTree → ExpressionTree → ExpressionTree

  -- comparisons with `and` between them
  pub data ConjunctionTree : Type 0 where
    LastComparison : ComparisonTree → ConjunctionTree
    ComparisonThen : ComparisonTree → ConjunctionTree → ConjunctionTree

  -- one sum, or two with a relation between them
  pub data ComparisonTree : Type 0 where
    OneSum : SumTree → ComparisonTree
    TwoSums : SumTree → Relation → SumTree → ComparisonTree

  -- terms with `+` and `-` between them
  pub data SumTree : Type 0 where
    LastTerm : TermTree → SumTree
    TermThen : TermTree → Addition → SumTree → SumTree

  -- operands with `*`, `/` and `%` between them
  pub data TermTree : Type 0 where
    LastUnary : UnaryTree → TermTree
    UnaryThen : UnaryTree → Multiplication → TermTree → TermTree

  -- a primary after any number of `-` and `not`
  pub data UnaryTree : Type 0 where
    Bare : PrimaryTree → UnaryTree
    Signed : Prefix → UnaryTree → UnaryTree

  pub data PrimaryTree : Type 0 where
    Literal : ℤ → PrimaryTree
    Truth : Bool → PrimaryTree
    Variable : Identifier → PrimaryTree
    Entry : Identifier → ExpressionTree → PrimaryTree
    Size : Identifier → PrimaryTree
    Parentheses : ExpressionTree → PrimaryTree

-- an initial or assigned value
pub data InitialTree : Type 0 where
  NewSet : (size : ℤ) → InitialTree
  Load : (argument : ℤ) → InitialTree
  Vertices : (edges : Identifier) → InitialTree
  OutDegrees : (edges : Identifier) → InitialTree
  Filter : (set test : Identifier) → InitialTree
  ApplyModified : (edges : Identifier) → EndsTree → (function vector : Identifier) → InitialTree
  Value : ExpressionTree → InitialTree

mutual
  -- what a statement does
  pub data StatementKindTree : Type 0 where
    Declare : (at : ℕ) → ParameterTree → InitialTree → StatementKindTree
    While : (at : ℕ) → (test : ExpressionTree) → (body : BlockTree) → StatementKindTree
    For : (at : ℕ) → (name : Identifier) → (first limit : ExpressionTree) → (body : BlockTree) → StatementKindTree
    If : (at : ℕ) → (test : ExpressionTree) → (body : BlockTree) → StatementKindTree
    IfElse : (at : ℕ) → (test : ExpressionTree) → (body otherwise : BlockTree) → StatementKindTree
    Print : (at : ℕ) → ExpressionTree → StatementKindTree
    Assign : (name : Identifier) → InitialTree → StatementKindTree
    Reduce : (name : Identifier) → Reduction → ExpressionTree → StatementKindTree
    SetEntry : (vector : Identifier) → (index value : ExpressionTree) → StatementKindTree
    ReduceEntry : (vector : Identifier) → (index : ExpressionTree) → Reduction → (value : ExpressionTree) → StatementKindTree
    AddVertex : (set : Identifier) → ExpressionTree → StatementKindTree
    Apply : (target : Identifier) → EndsTree → (function : Identifier) → StatementKindTree

  -- statements in order, each with its label where it has one
  pub data BlockTree : Type 0 where
    Empty : BlockTree
    Then : (label : Option Identifier) → StatementKindTree → BlockTree → BlockTree

pub data DeclarationTree : Type 0 where
  Constant : (at : ℕ) → ParameterTree → InitialTree → DeclarationTree
  Function : (at : ℕ) → (name : Identifier) → (parameters : List ParameterTree) → (result : Option ParameterTree) → (body : BlockTree) → DeclarationTree

-- a call of the schedule with its arguments
pub record CallTree : Type 0 where
  pub at : ℕ
  pub setting : Setting
  pub first : List ℕ
  pub more : List (List ℕ)

-- calls on the program, one after the other
pub record ChainTree : Type 0 where
  pub first : CallTree
  pub more : List CallTree

-- declarations, and the schedule where the source has that part
pub record SourceTree : Type 0 where
  pub declarations : List DeclarationTree
  pub schedule : Option (List ChainTree)
