-- Bare names: the one operand of an expression that has no operator between operands, and the name that an expression is.
use Rattle.std.specs.Prelude.{Option, Some, None}
use Rattle.syntax.specs.Terminals.{Identifier}
use Rattle.syntax.specs.SourceTrees.{ExpressionTree, ConjunctionTree, ComparisonTree, SumTree, TermTree, UnaryTree, PrimaryTree, LastConjunction}
use Rattle.syntax.specs.SourceTrees.{ConjunctionThen, LastComparison, ComparisonThen, OneSum, TwoSums, LastTerm, TermThen, LastUnary, UnaryThen, Bare, Signed}
use Rattle.syntax.specs.SourceTrees.{Literal, Truth, Variable, Entry, Size, Parentheses}

abbrev pub only_unary : TermTree → Option UnaryTree
only_unary (LastUnary u) = Some u
only_unary (UnaryThen u operator others) = None

abbrev pub only_term : SumTree → Option UnaryTree
only_term (LastTerm t) = only_unary t
only_term (TermThen t operator others) = None

abbrev pub only_sum : ComparisonTree → Option UnaryTree
only_sum (OneSum s) = only_term s
only_sum (TwoSums left relation right) = None

abbrev pub only_comparison : ConjunctionTree → Option UnaryTree
only_comparison (LastComparison c) = only_sum c
only_comparison (ComparisonThen c others) = None

abbrev pub only_operand : ExpressionTree → Option UnaryTree
only_operand (LastConjunction c) = only_comparison c
only_operand (ConjunctionThen c others) = None

abbrev mutual
  -- the name that an expression is, alone or in parentheses
  pub lone_name : ExpressionTree → Option Identifier
  lone_name (LastConjunction c) = conjunction_name c
  lone_name (ConjunctionThen c others) = None

  pub conjunction_name : ConjunctionTree → Option Identifier
  conjunction_name (LastComparison c) = comparison_name c
  conjunction_name (ComparisonThen c others) = None

  pub comparison_name : ComparisonTree → Option Identifier
  comparison_name (OneSum s) = sum_name s
  comparison_name (TwoSums left relation right) = None

  pub sum_name : SumTree → Option Identifier
  sum_name (LastTerm t) = term_name t
  sum_name (TermThen t operator others) = None

  pub term_name : TermTree → Option Identifier
  term_name (LastUnary u) = unary_name u
  term_name (UnaryThen u operator others) = None

  pub unary_name : UnaryTree → Option Identifier
  unary_name (Bare e) = primary_name e
  unary_name (Signed sign u) = None

  pub primary_name : PrimaryTree → Option Identifier
  primary_name (Literal n) = None
  primary_name (Truth b) = None
  primary_name (Variable name) = Some name
  primary_name (Entry vector index) = None
  primary_name (Size set) = None
  primary_name (Parentheses inside) = lone_name inside
