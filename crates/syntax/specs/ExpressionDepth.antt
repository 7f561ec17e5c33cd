-- How deep parentheses and brackets are nested.
use Rattle.std.specs.Prelude.{ℕ, suc, max}
use Rattle.syntax.specs.SourceTrees.{ExpressionTree, ConjunctionTree, ComparisonTree, SumTree, TermTree, UnaryTree, PrimaryTree, LastConjunction}
use Rattle.syntax.specs.SourceTrees.{ConjunctionThen, LastComparison, ComparisonThen, OneSum, TwoSums, LastTerm, TermThen, LastUnary, UnaryThen, Bare, Signed}
use Rattle.syntax.specs.SourceTrees.{Literal, Truth, Variable, Entry, Size, Parentheses}

abbrev mutual
  pub expression_depth : ExpressionTree → ℕ
  expression_depth (LastConjunction c) = conjunction_depth c
  expression_depth (ConjunctionThen c others) = max (conjunction_depth c) (expression_depth others)

  pub conjunction_depth : ConjunctionTree → ℕ
  conjunction_depth (LastComparison c) = comparison_depth c
  conjunction_depth (ComparisonThen c others) = max (comparison_depth c) (conjunction_depth others)

  pub comparison_depth : ComparisonTree → ℕ
  comparison_depth (OneSum s) = sum_depth s
  comparison_depth (TwoSums left relation right) = max (sum_depth left) (sum_depth right)

  pub sum_depth : SumTree → ℕ
  sum_depth (LastTerm t) = term_depth t
  sum_depth (TermThen t operator others) = max (term_depth t) (sum_depth others)

  pub term_depth : TermTree → ℕ
  term_depth (LastUnary u) = unary_depth u
  term_depth (UnaryThen u operator others) = max (unary_depth u) (term_depth others)

  pub unary_depth : UnaryTree → ℕ
  unary_depth (Bare p) = primary_depth p
  unary_depth (Signed sign u) = unary_depth u

  pub primary_depth : PrimaryTree → ℕ
  primary_depth (Literal n) = 0
  primary_depth (Truth b) = 0
  primary_depth (Variable name) = 0
  primary_depth (Entry name index) = suc (expression_depth index)
  primary_depth (Size name) = 0
  primary_depth (Parentheses inside) = suc (expression_depth inside)
