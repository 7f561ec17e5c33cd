-- The terminals of a tree: one equation for each rule of the grammar.
use Rattle.std.specs.Prelude.{Bool, true, false, List, [], ◌∷◌, ◌++◌}
use Rattle.lexer.specs.declared.keyword.Keyword.TheVariants as keyword
use Rattle.lexer.specs.declared.symbol.Symbol.TheVariants as symbol
use Rattle.syntax.specs.declared.operators.Addition.{Addition}
use Rattle.syntax.specs.declared.operators.Addition.TheVariants as addition
use Rattle.syntax.specs.declared.operators.Multiplication.{Multiplication}
use Rattle.syntax.specs.declared.operators.Multiplication.TheVariants as multiplication
use Rattle.syntax.specs.declared.operators.Prefix.{Prefix}
use Rattle.syntax.specs.declared.operators.Prefix.TheVariants as prefix
use Rattle.syntax.specs.declared.operators.Relation.{Relation}
use Rattle.syntax.specs.declared.operators.Relation.TheVariants as relation
use Rattle.syntax.specs.Terminals.{Terminal, Name, Number, OfKeyword, OfSymbol}
use Rattle.syntax.specs.SourceTrees.{ExpressionTree, ConjunctionTree, ComparisonTree, SumTree, TermTree, UnaryTree, PrimaryTree, LastConjunction}
use Rattle.syntax.specs.SourceTrees.{ConjunctionThen, LastComparison, ComparisonThen, OneSum, TwoSums, LastTerm, TermThen, LastUnary, UnaryThen, Bare, Signed}
use Rattle.syntax.specs.SourceTrees.{Literal, Truth, Variable, Entry, Size, Parentheses}

abbrev pub addition_terminal : Addition → Terminal
addition_terminal addition.Plus = OfSymbol symbol.Plus
addition_terminal addition.Minus = OfSymbol symbol.Minus

abbrev pub multiplication_terminal : Multiplication → Terminal
multiplication_terminal multiplication.Times = OfSymbol symbol.Star
multiplication_terminal multiplication.Divide = OfSymbol symbol.Slash
multiplication_terminal multiplication.Remainder = OfSymbol symbol.Percent

abbrev pub relation_terminal : Relation → Terminal
relation_terminal relation.Equal = OfSymbol symbol.Equal
relation_terminal relation.NotEqual = OfSymbol symbol.NotEqual
relation_terminal relation.Less = OfSymbol symbol.Less
relation_terminal relation.LessOrEqual = OfSymbol symbol.LessOrEqual
relation_terminal relation.Greater = OfSymbol symbol.Greater
relation_terminal relation.GreaterOrEqual = OfSymbol symbol.GreaterOrEqual

abbrev pub prefix_terminal : Prefix → Terminal
prefix_terminal prefix.Minus = OfSymbol symbol.Minus
prefix_terminal prefix.Not = OfKeyword keyword.Not

abbrev pub truth_terminal : Bool → Terminal
truth_terminal true = OfKeyword keyword.True
truth_terminal false = OfKeyword keyword.False

abbrev mutual
  -- expr = conj {"or" conj}
  pub expression_terminals : ExpressionTree → List Terminal
  expression_terminals (LastConjunction c) = conjunction_terminals c
  expression_terminals (ConjunctionThen c others) = conjunction_terminals c ++ OfKeyword keyword.Or ∷ expression_terminals others

  -- conj = comp {"and" comp}
  pub conjunction_terminals : ConjunctionTree → List Terminal
  conjunction_terminals (LastComparison c) = comparison_terminals c
  conjunction_terminals (ComparisonThen c others) = comparison_terminals c ++ OfKeyword keyword.And ∷ conjunction_terminals others

  -- comp = sum [("==" | "!=" | "<" | "<=" | ">" | ">=") sum]
  pub comparison_terminals : ComparisonTree → List Terminal
  comparison_terminals (OneSum s) = sum_terminals s
  comparison_terminals (TwoSums left relation right) = sum_terminals left ++ relation_terminal relation ∷ sum_terminals right

  -- sum = term {("+" | "-") term}
  pub sum_terminals : SumTree → List Terminal
  sum_terminals (LastTerm t) = term_terminals t
  sum_terminals (TermThen t operator others) = term_terminals t ++ addition_terminal operator ∷ sum_terminals others

  -- term = unary {("*" | "/" | "%") unary}
  pub term_terminals : TermTree → List Terminal
  term_terminals (LastUnary u) = unary_terminals u
  term_terminals (UnaryThen u operator others) = unary_terminals u ++ multiplication_terminal operator ∷ term_terminals others

  -- unary = {"-" | "not"} prim
  pub unary_terminals : UnaryTree → List Terminal
  unary_terminals (Bare p) = primary_terminals p
  unary_terminals (Signed sign u) = prefix_terminal sign ∷ unary_terminals u

  -- prim = NUMBER | "true" | "false" | NAME | NAME "[" expr "]" | NAME "." "getVertexSetSize" "(" ")" | "(" expr ")"
  pub primary_terminals : PrimaryTree → List Terminal
  primary_terminals (Literal n) = Number n ∷ []
  primary_terminals (Truth b) = truth_terminal b ∷ []
  primary_terminals (Variable name) = Name name ∷ []
  primary_terminals (Entry name index) =
      Name name ∷ OfSymbol symbol.OpenBracket ∷ (expression_terminals index ++ OfSymbol symbol.CloseBracket ∷ [])
  primary_terminals (Size name) =
      Name name ∷ OfSymbol symbol.Dot ∷ OfKeyword keyword.GetVertexSetSize ∷ OfSymbol symbol.OpenParenthesis ∷ OfSymbol symbol.CloseParenthesis ∷ []
  primary_terminals (Parentheses inside) =
      OfSymbol symbol.OpenParenthesis ∷ (expression_terminals inside ++ OfSymbol symbol.CloseParenthesis ∷ [])
