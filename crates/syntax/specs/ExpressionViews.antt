-- The trees that the structs are seen as.
use Rattle.std.specs.Prelude.{[], List, ◌∷◌}
use Rattle.syntax.specs.declared.operators.Addition.{Addition}
use Rattle.syntax.specs.declared.operators.Multiplication.{Multiplication}
use Rattle.syntax.specs.declared.operators.Prefix.{Prefix}
use Rattle.syntax.specs.declared.expression.Primary.{Primary}
use Rattle.syntax.specs.declared.expression.Unary.{Unary}
use Rattle.syntax.specs.SourceTrees.{ExpressionTree, ConjunctionTree, ComparisonTree, SumTree, TermTree, UnaryTree, PrimaryTree, LastConjunction}
use Rattle.syntax.specs.SourceTrees.{ConjunctionThen, LastComparison, ComparisonThen, LastTerm, TermThen, LastUnary, UnaryThen, Bare, Signed, Literal, Truth}
use Rattle.syntax.specs.SourceTrees.{Variable, Entry, Size, Parentheses}
use Rattle.syntax.specs.declared.expression.Primary.TheVariants as primary

abbrev pub primary_of : Primary → PrimaryTree
primary_of (primary.Number n) = Literal n
primary_of (primary.Truth b) = Truth b
primary_of (primary.Variable name) = Variable name
primary_of (primary.Entry name index) = Entry name index.value
primary_of (primary.Size name) = Size name
primary_of (primary.Parentheses inside) = Parentheses inside.value

-- the operand with these signs before it
abbrev pub signed_operand : List Prefix → UnaryTree → UnaryTree
signed_operand [] u = u
signed_operand (sign ∷ signs) u = Signed sign (signed_operand signs u)

abbrev pub unary_of : Unary → UnaryTree
unary_of u = signed_operand u.signs.items (Bare (primary_of u.primary))

abbrev pub term_from : UnaryTree → List (Multiplication × UnaryTree) → TermTree
term_from u [] = LastUnary u
term_from u ((operator, v) ∷ more) = UnaryThen u operator (term_from v more)

abbrev pub sum_from : TermTree → List (Addition × TermTree) → SumTree
sum_from t [] = LastTerm t
sum_from t ((operator, u) ∷ more) = TermThen t operator (sum_from u more)

abbrev pub conjunction_from : ComparisonTree → List ComparisonTree → ConjunctionTree
conjunction_from c [] = LastComparison c
conjunction_from c (d ∷ more) = ComparisonThen c (conjunction_from d more)

abbrev pub expression_from : ConjunctionTree → List ConjunctionTree → ExpressionTree
expression_from c [] = LastConjunction c
expression_from c (d ∷ more) = ConjunctionThen c (expression_from d more)
