-- A code for the trees of expressions, which hold themselves.
use Rattle.std.specs.Prelude.{[], ℕ, List, ◌∷◌, ◌≡◌, refl, ℤ, pos, negsuc, zero, suc, Bool, true, false}
use base.Stored.{Gv, gnil, gnum, gcons, Coded}
use Rattle.std.proofs.Common.{ap, sym, ◌∙◌}
use Rattle.syntax.specs.Terminals.{Identifier}
use Rattle.syntax.specs.declared.operators.Addition.{Addition}
use Rattle.syntax.specs.declared.operators.Multiplication.{Multiplication}
use Rattle.syntax.specs.declared.operators.Prefix.{Prefix}
use Rattle.syntax.specs.declared.operators.Relation.{Relation}
use Rattle.syntax.specs.SourceTrees.{ExpressionTree, ConjunctionTree, ComparisonTree, SumTree, TermTree, UnaryTree, PrimaryTree, LastConjunction}
use Rattle.syntax.specs.SourceTrees.{ConjunctionThen, LastComparison, ComparisonThen, OneSum, TwoSums, LastTerm, TermThen, LastUnary, UnaryThen, Bare, Signed}
use Rattle.syntax.specs.SourceTrees.{Literal, Truth, Variable, Entry, Size, Parentheses}
use Rattle.syntax.specs.declared.operators.Addition.TheVariants as addition
use Rattle.syntax.specs.declared.operators.Multiplication.TheVariants as multiplication
use Rattle.syntax.specs.declared.operators.Prefix.TheVariants as prefix
use Rattle.syntax.specs.declared.operators.Relation.TheVariants as relation

abbrev bytes_code : List ℕ → Gv
bytes_code [] = gnil
bytes_code (b ∷ bytes) = gcons (gnum b) (bytes_code bytes)

abbrev bytes_from : Gv → List ℕ
bytes_from gnil = []
bytes_from (gnum n) = []
bytes_from (gcons (gnum b) rest) = b ∷ bytes_from rest
bytes_from (gcons gnil rest) = []
bytes_from (gcons (gcons a b) rest) = []

bytes_back : (bytes : List ℕ) → bytes_from (bytes_code bytes) ≡ bytes
bytes_back [] = refl
bytes_back (b ∷ bytes) = ap (λ rest. b ∷ rest) (bytes_back bytes)

abbrev identifier_code : Identifier → Gv
identifier_code name = gcons (gnum name.at) (bytes_code name.bytes)

abbrev identifier_from : Gv → Identifier
identifier_from (gcons (gnum at) bytes) = record { bytes = bytes_from bytes; at = at }
identifier_from _ = record { bytes = []; at = 0 }

identifier_back : (name : Identifier) → identifier_from (identifier_code name) ≡ name
identifier_back name = let f : List ℕ → Identifier = λ bytes. record { bytes = bytes; at = name.at } in ap f (bytes_back name.bytes)

abbrev integer_code : ℤ → Gv
integer_code (pos n) = gcons gnil (gnum n)
integer_code (negsuc n) = gcons (gnum 0) (gnum n)

abbrev integer_from : Gv → ℤ
integer_from (gcons gnil (gnum n)) = pos n
integer_from (gcons (gnum m) (gnum n)) = negsuc n
integer_from _ = pos 0

integer_back : (n : ℤ) → integer_from (integer_code n) ≡ n
integer_back (pos n) = refl
integer_back (negsuc n) = refl

abbrev truth_code : Bool → ℕ
truth_code false = zero
truth_code true = suc zero

abbrev truth_from : ℕ → Bool
truth_from zero = false
truth_from (suc n) = true

truth_back : (b : Bool) → truth_from (truth_code b) ≡ b
truth_back false = refl
truth_back true = refl

abbrev addition_code : Addition → ℕ
addition_code addition.Plus = zero
addition_code addition.Minus = suc zero

abbrev addition_from : ℕ → Addition
addition_from zero = addition.Plus
addition_from (suc n) = addition.Minus

addition_back : (o : Addition) → addition_from (addition_code o) ≡ o
addition_back addition.Plus = refl
addition_back addition.Minus = refl

abbrev multiplication_code : Multiplication → ℕ
multiplication_code multiplication.Times = zero
multiplication_code multiplication.Divide = suc zero
multiplication_code multiplication.Remainder = suc (suc zero)

abbrev multiplication_from : ℕ → Multiplication
multiplication_from zero = multiplication.Times
multiplication_from (suc zero) = multiplication.Divide
multiplication_from (suc (suc n)) = multiplication.Remainder

multiplication_back : (o : Multiplication) → multiplication_from (multiplication_code o) ≡ o
multiplication_back multiplication.Times = refl
multiplication_back multiplication.Divide = refl
multiplication_back multiplication.Remainder = refl

abbrev prefix_code : Prefix → ℕ
prefix_code prefix.Minus = zero
prefix_code prefix.Not = suc zero

abbrev prefix_from : ℕ → Prefix
prefix_from zero = prefix.Minus
prefix_from (suc n) = prefix.Not

prefix_back : (o : Prefix) → prefix_from (prefix_code o) ≡ o
prefix_back prefix.Minus = refl
prefix_back prefix.Not = refl

abbrev relation_code : Relation → ℕ
relation_code relation.Equal = zero
relation_code relation.NotEqual = suc zero
relation_code relation.Less = suc (suc zero)
relation_code relation.LessOrEqual = suc (suc (suc zero))
relation_code relation.Greater = suc (suc (suc (suc zero)))
relation_code relation.GreaterOrEqual = suc (suc (suc (suc (suc zero))))

abbrev relation_from : ℕ → Relation
relation_from zero = relation.Equal
relation_from (suc zero) = relation.NotEqual
relation_from (suc (suc zero)) = relation.Less
relation_from (suc (suc (suc zero))) = relation.LessOrEqual
relation_from (suc (suc (suc (suc zero)))) = relation.Greater
relation_from (suc (suc (suc (suc (suc n))))) = relation.GreaterOrEqual

relation_back : (o : Relation) → relation_from (relation_code o) ≡ o
relation_back relation.Equal = refl
relation_back relation.NotEqual = refl
relation_back relation.Less = refl
relation_back relation.LessOrEqual = refl
relation_back relation.Greater = refl
relation_back relation.GreaterOrEqual = refl

abbrev mutual
  pub expression_code : ExpressionTree → Gv
  expression_code (LastConjunction c) = gcons gnil (conjunction_code c)
  expression_code (ConjunctionThen c others) = gcons (gnum 0) (gcons (conjunction_code c) (expression_code others))

  conjunction_code : ConjunctionTree → Gv
  conjunction_code (LastComparison c) = gcons gnil (comparison_code c)
  conjunction_code (ComparisonThen c others) = gcons (gnum 0) (gcons (comparison_code c) (conjunction_code others))

  comparison_code : ComparisonTree → Gv
  comparison_code (OneSum s) = gcons gnil (sum_code s)
  comparison_code (TwoSums left o right) = gcons (gnum (relation_code o)) (gcons (sum_code left) (sum_code right))

  sum_code : SumTree → Gv
  sum_code (LastTerm t) = gcons gnil (term_code t)
  sum_code (TermThen t o others) = gcons (gnum (addition_code o)) (gcons (term_code t) (sum_code others))

  term_code : TermTree → Gv
  term_code (LastUnary u) = gcons gnil (unary_code u)
  term_code (UnaryThen u o others) = gcons (gnum (multiplication_code o)) (gcons (unary_code u) (term_code others))

  unary_code : UnaryTree → Gv
  unary_code (Bare p) = gcons gnil (primary_code p)
  unary_code (Signed sign u) = gcons (gnum (prefix_code sign)) (unary_code u)

  primary_code : PrimaryTree → Gv
  primary_code (Literal n) = gcons (gnum zero) (integer_code n)
  primary_code (Truth b) = gcons (gnum (suc zero)) (gnum (truth_code b))
  primary_code (Variable name) = gcons (gnum (suc (suc zero))) (identifier_code name)
  primary_code (Entry name index) = gcons (gnum (suc (suc (suc zero)))) (gcons (identifier_code name) (expression_code index))
  primary_code (Size name) = gcons (gnum (suc (suc (suc (suc zero))))) (identifier_code name)
  primary_code (Parentheses inside) = gcons (gnum (suc (suc (suc (suc (suc zero)))))) (expression_code inside)

-- some primary, for what is no code
abbrev other_primary : PrimaryTree
other_primary = Literal (pos 0)

abbrev other_unary : UnaryTree
other_unary = Bare other_primary

abbrev other_term : TermTree
other_term = LastUnary other_unary

abbrev other_sum : SumTree
other_sum = LastTerm other_term

abbrev other_comparison : ComparisonTree
other_comparison = OneSum other_sum

abbrev other_conjunction : ConjunctionTree
other_conjunction = LastComparison other_comparison

abbrev other_expression : ExpressionTree
other_expression = LastConjunction other_conjunction

abbrev mutual
  pub expression_back_from : Gv → ExpressionTree
  expression_back_from (gcons gnil c) = LastConjunction (conjunction_from c)
  expression_back_from (gcons (gnum n) (gcons c others)) = ConjunctionThen (conjunction_from c) (expression_back_from others)
  expression_back_from _ = other_expression

  conjunction_from : Gv → ConjunctionTree
  conjunction_from (gcons gnil c) = LastComparison (comparison_from c)
  conjunction_from (gcons (gnum n) (gcons c others)) = ComparisonThen (comparison_from c) (conjunction_from others)
  conjunction_from _ = other_conjunction

  comparison_from : Gv → ComparisonTree
  comparison_from (gcons gnil s) = OneSum (sum_from s)
  comparison_from (gcons (gnum o) (gcons left right)) = TwoSums (sum_from left) (relation_from o) (sum_from right)
  comparison_from _ = other_comparison

  sum_from : Gv → SumTree
  sum_from (gcons gnil t) = LastTerm (term_from t)
  sum_from (gcons (gnum o) (gcons t others)) = TermThen (term_from t) (addition_from o) (sum_from others)
  sum_from _ = other_sum

  term_from : Gv → TermTree
  term_from (gcons gnil u) = LastUnary (unary_from u)
  term_from (gcons (gnum o) (gcons u others)) = UnaryThen (unary_from u) (multiplication_from o) (term_from others)
  term_from _ = other_term

  unary_from : Gv → UnaryTree
  unary_from (gcons gnil p) = Bare (primary_from p)
  unary_from (gcons (gnum sign) u) = Signed (prefix_from sign) (unary_from u)
  unary_from _ = other_unary

  primary_from : Gv → PrimaryTree
  primary_from (gcons (gnum zero) n) = Literal (integer_from n)
  primary_from (gcons (gnum (suc zero)) (gnum b)) = Truth (truth_from b)
  primary_from (gcons (gnum (suc (suc zero))) name) = Variable (identifier_from name)
  primary_from (gcons (gnum (suc (suc (suc zero)))) (gcons name index)) = Entry (identifier_from name) (expression_back_from index)
  primary_from (gcons (gnum (suc (suc (suc (suc zero))))) name) = Size (identifier_from name)
  primary_from (gcons (gnum (suc (suc (suc (suc (suc n)))))) inside) = Parentheses (expression_back_from inside)
  primary_from _ = other_primary

mutual
  expression_back : (e : ExpressionTree) → expression_back_from (expression_code e) ≡ e
  expression_back (LastConjunction c) = ap LastConjunction (conjunction_back c)
  expression_back (ConjunctionThen c others) = λ i. ConjunctionThen (conjunction_back c i) (expression_back others i)

  conjunction_back : (c : ConjunctionTree) → conjunction_from (conjunction_code c) ≡ c
  conjunction_back (LastComparison c) = ap LastComparison (comparison_back c)
  conjunction_back (ComparisonThen c others) = λ i. ComparisonThen (comparison_back c i) (conjunction_back others i)

  comparison_back : (c : ComparisonTree) → comparison_from (comparison_code c) ≡ c
  comparison_back (OneSum s) = ap OneSum (sum_back s)
  comparison_back (TwoSums left o right) = λ i. TwoSums (sum_back left i) (relation_back o i) (sum_back right i)

  sum_back : (s : SumTree) → sum_from (sum_code s) ≡ s
  sum_back (LastTerm t) = ap LastTerm (term_back t)
  sum_back (TermThen t o others) = λ i. TermThen (term_back t i) (addition_back o i) (sum_back others i)

  term_back : (t : TermTree) → term_from (term_code t) ≡ t
  term_back (LastUnary u) = ap LastUnary (unary_back u)
  term_back (UnaryThen u o others) = λ i. UnaryThen (unary_back u i) (multiplication_back o i) (term_back others i)

  unary_back : (u : UnaryTree) → unary_from (unary_code u) ≡ u
  unary_back (Bare p) = ap Bare (primary_back p)
  unary_back (Signed sign u) = λ i. Signed (prefix_back sign i) (unary_back u i)

  primary_back : (p : PrimaryTree) → primary_from (primary_code p) ≡ p
  primary_back (Literal n) = ap Literal (integer_back n)
  primary_back (Truth b) = ap Truth (truth_back b)
  primary_back (Variable name) = ap Variable (identifier_back name)
  primary_back (Entry name index) = λ i. Entry (identifier_back name i) (expression_back index i)
  primary_back (Size name) = ap Size (identifier_back name)
  primary_back (Parentheses inside) = ap Parentheses (expression_back inside)

pub same_code : (d e : ExpressionTree) → expression_code d ≡ expression_code e → d ≡ e
same_code d e same = sym (expression_back d) ∙ ap expression_back_from same ∙ expression_back e

abbrev pub coded_expression : Coded ExpressionTree
coded_expression = record { code = expression_code; inj = same_code }
