-- Where an expression may end.
use Rattle.std.specs.Prelude.{◌≡◌, List, None}
use Rattle.syntax.specs.Terminals.{Terminal}
use Rattle.syntax.specs.SourceTrees.{ExpressionTree, ConjunctionTree, ComparisonTree, SumTree, TermTree, UnaryTree, PrimaryTree, LastConjunction}
use Rattle.syntax.specs.SourceTrees.{ConjunctionThen, LastComparison, ComparisonThen, OneSum, TwoSums, LastTerm, TermThen, LastUnary, UnaryThen, Bare, Signed}
use Rattle.syntax.specs.SourceTrees.{Variable}
use Rattle.syntax.specs.ExpressionReading.{multiplication, addition, relation, after_and, after_or, after_open_bracket, after_dot}

-- The terminals after a tree do not continue with it: none of the operators of a level that could be after it is the first of
-- them, nor a bracket or a dot after a name. A comparison that has its relation takes no other.
abbrev pub EndsPrimary : PrimaryTree → List Terminal → Type 0
EndsPrimary (Variable name) rest = (after_open_bracket rest ≡ None) × (after_dot rest ≡ None)
EndsPrimary _ rest = Unit {0}

abbrev pub EndsUnary : UnaryTree → List Terminal → Type 0
EndsUnary (Bare p) rest = EndsPrimary p rest
EndsUnary (Signed sign u) rest = EndsUnary u rest

abbrev pub EndsTerm : TermTree → List Terminal → Type 0
EndsTerm (LastUnary u) rest = EndsUnary u rest × (multiplication rest ≡ None)
EndsTerm (UnaryThen u operator others) rest = EndsTerm others rest

abbrev pub EndsSum : SumTree → List Terminal → Type 0
EndsSum (LastTerm t) rest = EndsTerm t rest × (addition rest ≡ None)
EndsSum (TermThen t operator others) rest = EndsSum others rest

abbrev pub EndsComparison : ComparisonTree → List Terminal → Type 0
EndsComparison (OneSum s) rest = EndsSum s rest × (relation rest ≡ None)
EndsComparison (TwoSums left operator right) rest = EndsSum right rest

abbrev pub EndsConjunction : ConjunctionTree → List Terminal → Type 0
EndsConjunction (LastComparison c) rest = EndsComparison c rest × (after_and rest ≡ None)
EndsConjunction (ComparisonThen c others) rest = EndsConjunction others rest

abbrev pub EndsExpression : ExpressionTree → List Terminal → Type 0
EndsExpression (LastConjunction c) rest = EndsConjunction c rest × (after_or rest ≡ None)
EndsExpression (ConjunctionThen c others) rest = EndsExpression others rest

-- no operator, bracket or dot is the first of the terminals, so that no expression continues with them
pub record IsExpressionEnd (rest : List Terminal) : Type 0 where
  pub bracket : after_open_bracket rest ≡ None
  pub dot : after_dot rest ≡ None
  pub multiplies : multiplication rest ≡ None
  pub adds : addition rest ≡ None
  pub relates : relation rest ≡ None
  pub conjoins : after_and rest ≡ None
  pub disjoins : after_or rest ≡ None
