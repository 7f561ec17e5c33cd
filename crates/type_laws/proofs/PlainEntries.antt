-- An expression without an entry in its text has a value that reads none.
use Rattle.std.proofs.Common.{◌≡◌, refl, ℕ, false, Option, Some, None}
use Rattle.syntax.specs.declared.operators.Addition.{Addition}
use Rattle.syntax.specs.declared.operators.Multiplication.{Multiplication}
use Rattle.syntax.specs.declared.operators.Prefix.{Prefix}
use Rattle.syntax.specs.declared.operators.Prefix.TheVariants as prefix
use Rattle.syntax.specs.declared.operators.Relation.{Relation}
use Rattle.syntax.specs.declared.operators.Relation.TheVariants as relation
use Rattle.syntax.specs.SourceTrees as tree
use Rattle.syntax.specs.SourceTrees.{ExpressionTree, ConjunctionTree, ComparisonTree, SumTree, TermTree, UnaryTree, PrimaryTree}
use Rattle.typed_tree.specs.declared.expression.ComparisonOperator.{ComparisonOperator}
use Rattle.typed_tree.specs.declared.expression.ComparisonOperator.TheVariants as comparison
use Rattle.typed_tree.specs.declared.expression.Connective.{Connective}
use Rattle.typed_tree.specs.declared.expression.Connective.TheVariants as connective
use Rattle.typed_tree.specs.declared.expression.Operator.{Operator}
use Rattle.expression_types.specs.declared.fault.TypeRule.{TypeRule}
use Rattle.expression_types.specs.declared.fault.TypeRule.TheVariants as rule
use Rattle.expression_types.specs.declared.scope.Entity.{Entity}
use Rattle.expression_types.specs.declared.scope.Entity.TheVariants as entity
use Rattle.expression_types.specs.Expression.{as_size, comparison_value, conjunction_value, conjuncts, disjuncts, factors, primary_value, sum_value, summands, term_value, unary_value, used_name}
use Rattle.expression_types.specs.Expression.{value_of}
use Rattle.expression_types.specs.Operators.{ConditionsTree, Conditions, MixedConditions, ErrorConditions, IntegersTree, Integers, MixedIntegers, ErrorIntegers, addition_operator, beside_condition}
use Rattle.expression_types.specs.Operators.{beside_integer, compared, equated, first_condition, first_integer, given_or_fault, grouped_conditions, grouped_integers, multiplied, related_value}
use Rattle.expression_types.specs.Operators.{signed_value}
use Rattle.expression_types.specs.ScopeTree.{ScopeTree}
use Rattle.expression_types.specs.ValueTree.{ValueTree, Integer, Condition, Vertex, Set, ErrorValue, condition_reads_entry, named_value, reads_entry}
use Rattle.type_laws.specs.EntryAccess.{ComparisonHasNoEntry, ConjunctionHasNoEntry, HasNoEntry, PrimaryHasNoEntry, SumHasNoEntry, TermHasNoEntry, UnaryHasNoEntry}
use Rattle.type_laws.proofs.Booleans.{neither_true}

-- no entry is read in the value
abbrev pub ReadsNone : ValueTree → Type 0
ReadsNone (Integer e) = reads_entry e ≡ false
ReadsNone (Condition c) = condition_reads_entry c ≡ false
ReadsNone (Vertex p) = Unit {0}
ReadsNone (Set slot) = Unit {0}
ReadsNone ErrorValue = Unit {0}

abbrev MaybeReadsNone : Option ValueTree → Type 0
MaybeReadsNone None = Unit {0}
MaybeReadsNone (Some v) = ReadsNone v

abbrev ConditionsReadNone : ConditionsTree → Type 0
ConditionsReadNone (Conditions c) = condition_reads_entry c ≡ false
ConditionsReadNone MixedConditions = Unit {0}
ConditionsReadNone ErrorConditions = Unit {0}

abbrev IntegersReadNone : IntegersTree → Type 0
IntegersReadNone (Integers e) = reads_entry e ≡ false
IntegersReadNone MixedIntegers = Unit {0}
IntegersReadNone ErrorIntegers = Unit {0}

first_condition_plain : (v : ValueTree) → ReadsNone v → ConditionsReadNone (first_condition v)
first_condition_plain (Integer e) plain = tt
first_condition_plain (Condition c) plain = plain
first_condition_plain (Vertex p) plain = tt
first_condition_plain (Set slot) plain = tt
first_condition_plain ErrorValue plain = tt

first_integer_plain : (v : ValueTree) → ReadsNone v → IntegersReadNone (first_integer v)
first_integer_plain (Integer e) plain = plain
first_integer_plain (Condition c) plain = tt
first_integer_plain (Vertex p) plain = refl
first_integer_plain (Set slot) plain = tt
first_integer_plain ErrorValue plain = tt

beside_condition_plain : (o : Connective) (a b : ConditionsTree) → ConditionsReadNone a → ConditionsReadNone b → ConditionsReadNone (beside_condition o a b)
beside_condition_plain o (Conditions a) (Conditions b) first second = neither_true (condition_reads_entry a) (condition_reads_entry b) first second
beside_condition_plain o (Conditions a) MixedConditions first second = tt
beside_condition_plain o (Conditions a) ErrorConditions first second = tt
beside_condition_plain o MixedConditions (Conditions b) first second = tt
beside_condition_plain o MixedConditions MixedConditions first second = tt
beside_condition_plain o MixedConditions ErrorConditions first second = tt
beside_condition_plain o ErrorConditions b first second = tt

beside_integer_plain : (o : Operator) (a b : IntegersTree) → IntegersReadNone a → IntegersReadNone b → IntegersReadNone (beside_integer o a b)
beside_integer_plain o (Integers a) (Integers b) first second = neither_true (reads_entry a) (reads_entry b) first second
beside_integer_plain o (Integers a) MixedIntegers first second = tt
beside_integer_plain o (Integers a) ErrorIntegers first second = tt
beside_integer_plain o MixedIntegers (Integers b) first second = tt
beside_integer_plain o MixedIntegers MixedIntegers first second = tt
beside_integer_plain o MixedIntegers ErrorIntegers first second = tt
beside_integer_plain o ErrorIntegers b first second = tt

grouped_conditions_plain : (at : ℕ) (a : ConditionsTree) → ConditionsReadNone a → ReadsNone (grouped_conditions at a).value
grouped_conditions_plain at (Conditions c) plain = plain
grouped_conditions_plain at MixedConditions plain = tt
grouped_conditions_plain at ErrorConditions plain = tt

grouped_integers_plain : (at : ℕ) (a : IntegersTree) → IntegersReadNone a → ReadsNone (grouped_integers at a).value
grouped_integers_plain at (Integers e) plain = plain
grouped_integers_plain at MixedIntegers plain = tt
grouped_integers_plain at ErrorIntegers plain = tt

given_reads_none : (at : ℕ) (rule : TypeRule) (o : Option ValueTree) → MaybeReadsNone o → ReadsNone (given_or_fault at rule o).value
given_reads_none at rule None plain = tt
given_reads_none at rule (Some v) plain = plain

compared_plain : (o : ComparisonOperator) (a b : IntegersTree) → IntegersReadNone a → IntegersReadNone b → MaybeReadsNone (compared o a b)
compared_plain o (Integers a) (Integers b) first second = neither_true (reads_entry a) (reads_entry b) first second
compared_plain o (Integers a) MixedIntegers first second = tt
compared_plain o (Integers a) ErrorIntegers first second = tt
compared_plain o MixedIntegers (Integers b) first second = tt
compared_plain o MixedIntegers MixedIntegers first second = tt
compared_plain o MixedIntegers ErrorIntegers first second = tt
compared_plain o ErrorIntegers b first second = tt

equated_plain : (o : Connective) (a b : ConditionsTree) → ConditionsReadNone a → ConditionsReadNone b → MaybeReadsNone (equated o a b)
equated_plain o (Conditions a) (Conditions b) first second = neither_true (condition_reads_entry a) (condition_reads_entry b) first second
equated_plain o (Conditions a) MixedConditions first second = tt
equated_plain o (Conditions a) ErrorConditions first second = tt
equated_plain o MixedConditions (Conditions b) first second = tt
equated_plain o MixedConditions MixedConditions first second = tt
equated_plain o MixedConditions ErrorConditions first second = tt
equated_plain o ErrorConditions b first second = tt

values_compared_plain : (o : ComparisonOperator) (a b : ValueTree) → ReadsNone a → ReadsNone b → MaybeReadsNone (compared o (first_integer a) (first_integer b))
values_compared_plain o a b first second = compared_plain o (first_integer a) (first_integer b) (first_integer_plain a first) (first_integer_plain b second)

related_plain : (r : Relation) (a b : ValueTree) → ReadsNone a → ReadsNone b → MaybeReadsNone (related_value r a b)
related_plain relation.Equal (Integer e) b first second = values_compared_plain comparison.Equal (Integer e) b first second
related_plain relation.Equal (Condition c) b first second = equated_plain connective.Equal (Conditions c) (first_condition b) first (first_condition_plain b second)
related_plain relation.Equal (Vertex p) b first second = values_compared_plain comparison.Equal (Vertex p) b first second
related_plain relation.Equal (Set slot) b first second = values_compared_plain comparison.Equal (Set slot) b first second
related_plain relation.Equal ErrorValue b first second = tt
related_plain relation.NotEqual (Integer e) b first second = values_compared_plain comparison.NotEqual (Integer e) b first second
related_plain relation.NotEqual (Condition c) b first second = equated_plain connective.NotEqual (Conditions c) (first_condition b) first (first_condition_plain b second)
related_plain relation.NotEqual (Vertex p) b first second = values_compared_plain comparison.NotEqual (Vertex p) b first second
related_plain relation.NotEqual (Set slot) b first second = values_compared_plain comparison.NotEqual (Set slot) b first second
related_plain relation.NotEqual ErrorValue b first second = tt
related_plain relation.Less a b first second = values_compared_plain comparison.Less a b first second
related_plain relation.LessOrEqual a b first second = values_compared_plain comparison.LessOrEqual a b first second
related_plain relation.Greater a b first second = values_compared_plain comparison.Greater a b first second
related_plain relation.GreaterOrEqual a b first second = values_compared_plain comparison.GreaterOrEqual a b first second

signed_plain : (sign : Prefix) (v : ValueTree) → ReadsNone v → MaybeReadsNone (signed_value sign v)
signed_plain prefix.Minus (Integer e) plain = plain
signed_plain prefix.Minus (Condition c) plain = tt
signed_plain prefix.Minus (Vertex p) plain = refl
signed_plain prefix.Minus (Set slot) plain = tt
signed_plain prefix.Minus ErrorValue plain = tt
signed_plain prefix.Not (Integer e) plain = tt
signed_plain prefix.Not (Condition c) plain = plain
signed_plain prefix.Not (Vertex p) plain = tt
signed_plain prefix.Not (Set slot) plain = tt
signed_plain prefix.Not ErrorValue plain = tt

named_plain : (e : Entity) → MaybeReadsNone (named_value e)
named_plain (entity.ConstantSet slot) = tt
named_plain (entity.IntConstant name n) = refl
named_plain (entity.BoolConstant name b) = refl
named_plain (entity.IntVariable slot) = refl
named_plain (entity.BoolVariable slot) = refl
named_plain (entity.SetVariable slot) = tt
named_plain (entity.LoopVariable slot) = refl
named_plain entity.Weight = refl
named_plain _ = tt

size_plain : (at : ℕ) (e : Entity) → ReadsNone (as_size at e).value
size_plain at (entity.ConstantSet slot) = refl
size_plain at (entity.SetVariable slot) = refl
size_plain at _ = tt

mutual
  pub expression_reads_none : (scope : ScopeTree) (at : ℕ) (e : ExpressionTree) → HasNoEntry e → ReadsNone (value_of scope at e).value
  expression_reads_none scope at (tree.LastConjunction c) none = conjunction_reads_none scope at c none
  expression_reads_none scope at (tree.ConjunctionThen c others) none =
      let x = (conjunction_value scope at c).value in
      grouped_conditions_plain at (disjuncts scope at (first_condition x) others).value
      (disjuncts_read_none scope at (first_condition x) others (first_condition_plain x (conjunction_reads_none scope at c none.0)) none.1)

  disjuncts_read_none : (scope : ScopeTree) (at : ℕ) (left : ConditionsTree) (e : ExpressionTree) → ConditionsReadNone left → HasNoEntry e
      → ConditionsReadNone (disjuncts scope at left e).value
  disjuncts_read_none scope at left (tree.LastConjunction c) plain none =
      let x = (conjunction_value scope at c).value in
      beside_condition_plain connective.Or left (first_condition x) plain (first_condition_plain x (conjunction_reads_none scope at c none))
  disjuncts_read_none scope at left (tree.ConjunctionThen c others) plain none =
      let x = (conjunction_value scope at c).value in
      disjuncts_read_none scope at (beside_condition connective.Or left (first_condition x)) others
      (beside_condition_plain connective.Or left (first_condition x) plain (first_condition_plain x (conjunction_reads_none scope at c none.0))) none.1

  conjunction_reads_none : (scope : ScopeTree) (at : ℕ) (c : ConjunctionTree) → ConjunctionHasNoEntry c → ReadsNone (conjunction_value scope at c).value
  conjunction_reads_none scope at (tree.LastComparison c) none = comparison_reads_none scope at c none
  conjunction_reads_none scope at (tree.ComparisonThen c others) none =
      let x = (comparison_value scope at c).value in
      grouped_conditions_plain at (conjuncts scope at (first_condition x) others).value
      (conjuncts_read_none scope at (first_condition x) others (first_condition_plain x (comparison_reads_none scope at c none.0)) none.1)

  conjuncts_read_none : (scope : ScopeTree) (at : ℕ) (left : ConditionsTree) (c : ConjunctionTree) → ConditionsReadNone left → ConjunctionHasNoEntry c
      → ConditionsReadNone (conjuncts scope at left c).value
  conjuncts_read_none scope at left (tree.LastComparison c) plain none =
      let x = (comparison_value scope at c).value in
      beside_condition_plain connective.And left (first_condition x) plain (first_condition_plain x (comparison_reads_none scope at c none))
  conjuncts_read_none scope at left (tree.ComparisonThen c others) plain none =
      let x = (comparison_value scope at c).value in
      conjuncts_read_none scope at (beside_condition connective.And left (first_condition x)) others
      (beside_condition_plain connective.And left (first_condition x) plain (first_condition_plain x (comparison_reads_none scope at c none.0))) none.1

  comparison_reads_none : (scope : ScopeTree) (at : ℕ) (c : ComparisonTree) → ComparisonHasNoEntry c → ReadsNone (comparison_value scope at c).value
  comparison_reads_none scope at (tree.OneSum s) none = sum_reads_none scope at s none
  comparison_reads_none scope at (tree.TwoSums left relation right) none =
      let a = (sum_value scope at left).value in
      let b = (sum_value scope at right).value in
      given_reads_none at rule.WrongType (related_value relation a b) (related_plain relation a b (sum_reads_none scope at left none.0) (sum_reads_none scope at right none.1))

  sum_reads_none : (scope : ScopeTree) (at : ℕ) (s : SumTree) → SumHasNoEntry s → ReadsNone (sum_value scope at s).value
  sum_reads_none scope at (tree.LastTerm t) none = term_reads_none scope at t none
  sum_reads_none scope at (tree.TermThen t o others) none =
      let x = (term_value scope at t).value in
      grouped_integers_plain at (summands scope at (first_integer x) o others).value
      (summands_read_none scope at (first_integer x) o others (first_integer_plain x (term_reads_none scope at t none.0)) none.1)

  summands_read_none : (scope : ScopeTree) (at : ℕ) (left : IntegersTree) (o : Addition) (s : SumTree) → IntegersReadNone left → SumHasNoEntry s
      → IntegersReadNone (summands scope at left o s).value
  summands_read_none scope at left o (tree.LastTerm t) plain none =
      let x = (term_value scope at t).value in
      beside_integer_plain (addition_operator o) left (first_integer x) plain (first_integer_plain x (term_reads_none scope at t none))
  summands_read_none scope at left o (tree.TermThen t next others) plain none =
      let x = (term_value scope at t).value in
      summands_read_none scope at (beside_integer (addition_operator o) left (first_integer x)) next others
      (beside_integer_plain (addition_operator o) left (first_integer x) plain (first_integer_plain x (term_reads_none scope at t none.0))) none.1

  term_reads_none : (scope : ScopeTree) (at : ℕ) (t : TermTree) → TermHasNoEntry t → ReadsNone (term_value scope at t).value
  term_reads_none scope at (tree.LastUnary u) none = unary_reads_none scope at u none
  term_reads_none scope at (tree.UnaryThen u o others) none =
      let x = (unary_value scope at u).value in
      grouped_integers_plain at (factors scope at (first_integer x) o others).value
      (factors_read_none scope at (first_integer x) o others (first_integer_plain x (unary_reads_none scope at u none.0)) none.1)

  factors_read_none : (scope : ScopeTree) (at : ℕ) (left : IntegersTree) (o : Multiplication) (t : TermTree) → IntegersReadNone left → TermHasNoEntry t
      → IntegersReadNone (factors scope at left o t).value
  factors_read_none scope at left o (tree.LastUnary u) plain none =
      let x = (unary_value scope at u).value in
      beside_integer_plain (multiplied o) left (first_integer x) plain (first_integer_plain x (unary_reads_none scope at u none))
  factors_read_none scope at left o (tree.UnaryThen u next others) plain none =
      let x = (unary_value scope at u).value in
      factors_read_none scope at (beside_integer (multiplied o) left (first_integer x)) next others
      (beside_integer_plain (multiplied o) left (first_integer x) plain (first_integer_plain x (unary_reads_none scope at u none.0))) none.1

  unary_reads_none : (scope : ScopeTree) (at : ℕ) (u : UnaryTree) → UnaryHasNoEntry u → ReadsNone (unary_value scope at u).value
  unary_reads_none scope at (tree.Bare e) none = primary_reads_none scope at e none
  unary_reads_none scope at (tree.Signed sign u) none =
      let x = (unary_value scope at u).value in given_reads_none at rule.WrongType (signed_value sign x) (signed_plain sign x (unary_reads_none scope at u none))

  primary_reads_none : (scope : ScopeTree) (at : ℕ) (e : PrimaryTree) → PrimaryHasNoEntry e → ReadsNone (primary_value scope at e).value
  primary_reads_none scope at (tree.Literal n) none = refl
  primary_reads_none scope at (tree.Truth b) none = refl
  primary_reads_none scope at (tree.Variable name) none =
      let e = (used_name scope name).value in given_reads_none at rule.WrongType (named_value e) (named_plain e)
  primary_reads_none scope at (tree.Entry vector index) none = absurd none
  primary_reads_none scope at (tree.Size set) none = size_plain at (used_name scope set).value
  primary_reads_none scope at (tree.Parentheses inside) none = expression_reads_none scope at inside none
