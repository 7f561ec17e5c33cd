-- An index that reads no entry has none in its text.
use Rattle.std.proofs.Common.{◌≡◌, sym, ℕ, Bool, true, false, if◌then◌else◌, Option, Some, None}
use Rattle.syntax.specs.declared.operators.Addition.{Addition}
use Rattle.syntax.specs.declared.operators.Multiplication.{Multiplication}
use Rattle.syntax.specs.declared.operators.Prefix.{Prefix}
use Rattle.syntax.specs.declared.operators.Prefix.TheVariants as prefix
use Rattle.syntax.specs.declared.operators.Relation.{Relation}
use Rattle.syntax.specs.declared.operators.Relation.TheVariants as relation
use Rattle.syntax.specs.SourceTrees as tree
use Rattle.syntax.specs.SourceTrees.{ExpressionTree, ConjunctionTree, ComparisonTree, SumTree, TermTree, UnaryTree, PrimaryTree}
use Rattle.typed_tree.specs.declared.expression.ComparisonOperator.{ComparisonOperator}
use Rattle.typed_tree.specs.declared.expression.ComparisonOperator.TheVariants as comparison
use Rattle.typed_tree.specs.declared.expression.Connective.{Connective}
use Rattle.typed_tree.specs.declared.expression.Connective.TheVariants as connective
use Rattle.typed_tree.specs.declared.expression.Operator.{Operator}
use Rattle.typed_tree.specs.IntExpressionTree.{IntExpressionTree, Entry}
use Rattle.expression_types.specs.declared.fault.TypeRule.{TypeRule}
use Rattle.expression_types.specs.declared.fault.TypeRule.TheVariants as rule
use Rattle.expression_types.specs.declared.scope.Inside.{Inside}
use Rattle.expression_types.specs.declared.scope.Inside.TheVariants as inside
use Rattle.expression_types.specs.Expression.{comparison_value, conjunction_value, conjuncts, disjuncts, factors, index_value, primary_value, sum_value, summands, term_value, unary_value, value_of}
use Rattle.expression_types.specs.Expression.{vector_index}
use Rattle.expression_types.specs.Faults.{fault_at, sure}
use Rattle.expression_types.specs.Operators.{IntegersTree, Integers, MixedIntegers, ErrorIntegers, ConditionsTree, Conditions, MixedConditions, ErrorConditions, addition_operator, beside_condition}
use Rattle.expression_types.specs.Operators.{beside_integer, compared, condition_index, entry_value, equated, first_condition, first_integer, function_entry, given_or_fault, grouped_conditions}
use Rattle.expression_types.specs.Operators.{grouped_integers, main_entry, multiplied, related_value, signed_value}
use Rattle.expression_types.specs.ScopeTree.{ScopeTree}
use Rattle.expression_types.specs.ValueTree.{ValueTree, Integer, Condition, Vertex, Set, ErrorValue, condition_reads_entry, reads_entry}
use Rattle.type_laws.proofs.Booleans.{both_false, false_is_not_true}
use Rattle.type_laws.specs.EntryAccess.{ComparisonHasNoEntry, ConjunctionHasNoEntry, HasNoEntry, PrimaryHasNoEntry, SumHasNoEntry, TermHasNoEntry, UnaryHasNoEntry}

-- a value without a faulty part that reads no entry
abbrev pub IsPlain : ValueTree → Type 0
IsPlain (Integer e) = reads_entry e ≡ false
IsPlain (Condition c) = condition_reads_entry c ≡ false
IsPlain (Vertex p) = Unit {0}
IsPlain (Set slot) = Unit {0}
IsPlain ErrorValue = ⊥

abbrev MaybePlain : Option ValueTree → Type 0
MaybePlain None = ⊥
MaybePlain (Some v) = IsPlain v

abbrev IntegersArePlain : IntegersTree → Type 0
IntegersArePlain (Integers e) = reads_entry e ≡ false
IntegersArePlain MixedIntegers = ⊥
IntegersArePlain ErrorIntegers = ⊥

abbrev ConditionsArePlain : ConditionsTree → Type 0
ConditionsArePlain (Conditions c) = condition_reads_entry c ≡ false
ConditionsArePlain MixedConditions = ⊥
ConditionsArePlain ErrorConditions = ⊥

-- operands
first_integer_plain : (v : ValueTree) → IntegersArePlain (first_integer v) → IsPlain v
first_integer_plain (Integer e) plain = plain
first_integer_plain (Condition c) plain = absurd plain
first_integer_plain (Vertex p) plain = tt
first_integer_plain (Set slot) plain = absurd plain
first_integer_plain ErrorValue plain = plain

first_condition_plain : (v : ValueTree) → ConditionsArePlain (first_condition v) → IsPlain v
first_condition_plain (Integer e) plain = absurd plain
first_condition_plain (Condition c) plain = plain
first_condition_plain (Vertex p) plain = absurd plain
first_condition_plain (Set slot) plain = absurd plain
first_condition_plain ErrorValue plain = plain

beside_integer_plain : (o : Operator) (a b : IntegersTree) → IntegersArePlain (beside_integer o a b) → IntegersArePlain a × IntegersArePlain b
beside_integer_plain o (Integers a) (Integers b) plain = both_false (reads_entry a) (reads_entry b) plain
beside_integer_plain o (Integers a) MixedIntegers plain = absurd plain
beside_integer_plain o (Integers a) ErrorIntegers plain = absurd plain
beside_integer_plain o MixedIntegers (Integers b) plain = absurd plain
beside_integer_plain o MixedIntegers MixedIntegers plain = absurd plain
beside_integer_plain o MixedIntegers ErrorIntegers plain = absurd plain
beside_integer_plain o ErrorIntegers b plain = absurd plain

beside_condition_plain : (o : Connective) (a b : ConditionsTree) → ConditionsArePlain (beside_condition o a b) → ConditionsArePlain a × ConditionsArePlain b
beside_condition_plain o (Conditions a) (Conditions b) plain = both_false (condition_reads_entry a) (condition_reads_entry b) plain
beside_condition_plain o (Conditions a) MixedConditions plain = absurd plain
beside_condition_plain o (Conditions a) ErrorConditions plain = absurd plain
beside_condition_plain o MixedConditions (Conditions b) plain = absurd plain
beside_condition_plain o MixedConditions MixedConditions plain = absurd plain
beside_condition_plain o MixedConditions ErrorConditions plain = absurd plain
beside_condition_plain o ErrorConditions b plain = absurd plain

grouped_integers_plain : (at : ℕ) (a : IntegersTree) → IsPlain (grouped_integers at a).value → IntegersArePlain a
grouped_integers_plain at (Integers e) plain = plain
grouped_integers_plain at MixedIntegers plain = plain
grouped_integers_plain at ErrorIntegers plain = plain

grouped_conditions_plain : (at : ℕ) (a : ConditionsTree) → IsPlain (grouped_conditions at a).value → ConditionsArePlain a
grouped_conditions_plain at (Conditions c) plain = plain
grouped_conditions_plain at MixedConditions plain = plain
grouped_conditions_plain at ErrorConditions plain = plain

-- relations and signs
given_plain : (at : ℕ) (rule : TypeRule) (o : Option ValueTree) → IsPlain (given_or_fault at rule o).value → MaybePlain o
given_plain at rule None plain = plain
given_plain at rule (Some v) plain = plain

compared_plain : (o : ComparisonOperator) (a b : IntegersTree) → MaybePlain (compared o a b) → IntegersArePlain a × IntegersArePlain b
compared_plain o (Integers a) (Integers b) plain = both_false (reads_entry a) (reads_entry b) plain
compared_plain o (Integers a) MixedIntegers plain = absurd plain
compared_plain o (Integers a) ErrorIntegers plain = absurd plain
compared_plain o MixedIntegers (Integers b) plain = absurd plain
compared_plain o MixedIntegers MixedIntegers plain = absurd plain
compared_plain o MixedIntegers ErrorIntegers plain = absurd plain
compared_plain o ErrorIntegers b plain = absurd plain

equated_plain : (o : Connective) (a b : ConditionsTree) → MaybePlain (equated o a b) → ConditionsArePlain a × ConditionsArePlain b
equated_plain o (Conditions a) (Conditions b) plain = both_false (condition_reads_entry a) (condition_reads_entry b) plain
equated_plain o (Conditions a) MixedConditions plain = absurd plain
equated_plain o (Conditions a) ErrorConditions plain = absurd plain
equated_plain o MixedConditions (Conditions b) plain = absurd plain
equated_plain o MixedConditions MixedConditions plain = absurd plain
equated_plain o MixedConditions ErrorConditions plain = absurd plain
equated_plain o ErrorConditions b plain = absurd plain

values_compared_plain : (o : ComparisonOperator) (a b : ValueTree) → MaybePlain (compared o (first_integer a) (first_integer b)) → IsPlain a × IsPlain b
values_compared_plain o a b plain =
    let both = compared_plain o (first_integer a) (first_integer b) plain in (first_integer_plain a both.0, first_integer_plain b both.1)

conditions_equated_plain : (o : Connective) (a : ConditionsTree) (b : ValueTree) → MaybePlain (equated o a (first_condition b)) → ConditionsArePlain a × IsPlain b
conditions_equated_plain o a b plain = let both = equated_plain o a (first_condition b) plain in (both.0, first_condition_plain b both.1)

values_related_plain : (r : Relation) (a b : ValueTree) → MaybePlain (related_value r a b) → IsPlain a × IsPlain b
values_related_plain relation.Equal (Integer e) b plain = values_compared_plain comparison.Equal (Integer e) b plain
values_related_plain relation.Equal (Condition c) b plain = conditions_equated_plain connective.Equal (Conditions c) b plain
values_related_plain relation.Equal (Vertex p) b plain = values_compared_plain comparison.Equal (Vertex p) b plain
values_related_plain relation.Equal (Set slot) b plain = values_compared_plain comparison.Equal (Set slot) b plain
values_related_plain relation.Equal ErrorValue b plain = absurd plain
values_related_plain relation.NotEqual (Integer e) b plain = values_compared_plain comparison.NotEqual (Integer e) b plain
values_related_plain relation.NotEqual (Condition c) b plain = conditions_equated_plain connective.NotEqual (Conditions c) b plain
values_related_plain relation.NotEqual (Vertex p) b plain = values_compared_plain comparison.NotEqual (Vertex p) b plain
values_related_plain relation.NotEqual (Set slot) b plain = values_compared_plain comparison.NotEqual (Set slot) b plain
values_related_plain relation.NotEqual ErrorValue b plain = absurd plain
values_related_plain relation.Less a b plain = values_compared_plain comparison.Less a b plain
values_related_plain relation.LessOrEqual a b plain = values_compared_plain comparison.LessOrEqual a b plain
values_related_plain relation.Greater a b plain = values_compared_plain comparison.Greater a b plain
values_related_plain relation.GreaterOrEqual a b plain = values_compared_plain comparison.GreaterOrEqual a b plain

value_signed_plain : (sign : Prefix) (v : ValueTree) → MaybePlain (signed_value sign v) → IsPlain v
value_signed_plain prefix.Minus (Integer e) plain = plain
value_signed_plain prefix.Minus (Condition c) plain = absurd plain
value_signed_plain prefix.Minus (Vertex p) plain = tt
value_signed_plain prefix.Minus (Set slot) plain = absurd plain
value_signed_plain prefix.Minus ErrorValue plain = plain
value_signed_plain prefix.Not (Integer e) plain = absurd plain
value_signed_plain prefix.Not (Condition c) plain = plain
value_signed_plain prefix.Not (Vertex p) plain = absurd plain
value_signed_plain prefix.Not (Set slot) plain = absurd plain
value_signed_plain prefix.Not ErrorValue plain = plain

-- an entry reads an entry
true_is_not_false : true ≡ false → ⊥
true_is_not_false is = false_is_not_true (sym is)

index_not_plain : (b : Bool) (at vector : ℕ) (e : IntExpressionTree) → IsPlain (if b then fault_at at rule.WrongIndex ErrorValue else sure (Integer (Entry vector e))).value → ⊥
index_not_plain true at vector e plain = plain
index_not_plain false at vector e plain = true_is_not_false plain

condition_index_not_plain : (at : ℕ) (reads : Bool) → IsPlain (condition_index at reads).value → ⊥
condition_index_not_plain at true plain = plain
condition_index_not_plain at false plain = plain

main_entry_not_plain : (at vector : ℕ) (v : ValueTree) → IsPlain (main_entry at vector v).value → ⊥
main_entry_not_plain at vector (Integer e) plain = index_not_plain (reads_entry e) at vector e plain
main_entry_not_plain at vector (Condition c) plain = condition_index_not_plain at (condition_reads_entry c) plain
main_entry_not_plain at vector (Vertex p) plain = true_is_not_false plain
main_entry_not_plain at vector (Set slot) plain = plain
main_entry_not_plain at vector ErrorValue plain = plain

function_entry_not_plain : (at vector : ℕ) (v : ValueTree) → IsPlain (function_entry at vector v).value → ⊥
function_entry_not_plain at vector (Integer e) plain = plain
function_entry_not_plain at vector (Condition c) plain = plain
function_entry_not_plain at vector (Vertex p) plain = true_is_not_false plain
function_entry_not_plain at vector (Set slot) plain = plain
function_entry_not_plain at vector ErrorValue plain = plain

entry_not_plain : (i : Inside) (at : ℕ) (index : Option ℕ) (v : ValueTree) → IsPlain (entry_value i at index v).value → ⊥
entry_not_plain i at None v plain = plain
entry_not_plain inside.Main at (Some vector) v plain = main_entry_not_plain at vector v plain
entry_not_plain inside.EdgeFunction at (Some vector) v plain = function_entry_not_plain at vector v plain
entry_not_plain inside.VertexFunction at (Some vector) v plain = function_entry_not_plain at vector v plain
entry_not_plain inside.Filter at (Some vector) v plain = function_entry_not_plain at vector v plain

-- expressions
mutual
  pub expression_plain : (scope : ScopeTree) (at : ℕ) (e : ExpressionTree) → IsPlain (value_of scope at e).value → HasNoEntry e
  expression_plain scope at (tree.LastConjunction c) plain = conjunction_plain scope at c plain
  expression_plain scope at (tree.ConjunctionThen c others) plain =
      let x = (conjunction_value scope at c).value in
      let rest = (disjuncts scope at (first_condition x) others).value in
      let both = disjuncts_plain scope at (first_condition x) others (grouped_conditions_plain at rest plain) in
      (conjunction_plain scope at c (first_condition_plain x both.0), both.1)

  disjuncts_plain : (scope : ScopeTree) (at : ℕ) (left : ConditionsTree) (e : ExpressionTree) → ConditionsArePlain (disjuncts scope at left e).value
      → ConditionsArePlain left × HasNoEntry e
  disjuncts_plain scope at left (tree.LastConjunction c) plain =
      let x = (conjunction_value scope at c).value in
      let both = beside_condition_plain connective.Or left (first_condition x) plain in
      (both.0, conjunction_plain scope at c (first_condition_plain x both.1))
  disjuncts_plain scope at left (tree.ConjunctionThen c others) plain =
      let x = (conjunction_value scope at c).value in
      let more = disjuncts_plain scope at (beside_condition connective.Or left (first_condition x)) others plain in
      let both = beside_condition_plain connective.Or left (first_condition x) more.0 in
      (both.0, (conjunction_plain scope at c (first_condition_plain x both.1), more.1))

  conjunction_plain : (scope : ScopeTree) (at : ℕ) (c : ConjunctionTree) → IsPlain (conjunction_value scope at c).value → ConjunctionHasNoEntry c
  conjunction_plain scope at (tree.LastComparison c) plain = comparison_plain scope at c plain
  conjunction_plain scope at (tree.ComparisonThen c others) plain =
      let x = (comparison_value scope at c).value in
      let rest = (conjuncts scope at (first_condition x) others).value in
      let both = conjuncts_plain scope at (first_condition x) others (grouped_conditions_plain at rest plain) in
      (comparison_plain scope at c (first_condition_plain x both.0), both.1)

  conjuncts_plain : (scope : ScopeTree) (at : ℕ) (left : ConditionsTree) (c : ConjunctionTree) → ConditionsArePlain (conjuncts scope at left c).value
      → ConditionsArePlain left × ConjunctionHasNoEntry c
  conjuncts_plain scope at left (tree.LastComparison c) plain =
      let x = (comparison_value scope at c).value in
      let both = beside_condition_plain connective.And left (first_condition x) plain in
      (both.0, comparison_plain scope at c (first_condition_plain x both.1))
  conjuncts_plain scope at left (tree.ComparisonThen c others) plain =
      let x = (comparison_value scope at c).value in
      let more = conjuncts_plain scope at (beside_condition connective.And left (first_condition x)) others plain in
      let both = beside_condition_plain connective.And left (first_condition x) more.0 in
      (both.0, (comparison_plain scope at c (first_condition_plain x both.1), more.1))

  comparison_plain : (scope : ScopeTree) (at : ℕ) (c : ComparisonTree) → IsPlain (comparison_value scope at c).value → ComparisonHasNoEntry c
  comparison_plain scope at (tree.OneSum s) plain = sum_plain scope at s plain
  comparison_plain scope at (tree.TwoSums left relation right) plain =
      let a = (sum_value scope at left).value in
      let b = (sum_value scope at right).value in
      let both = values_related_plain relation a b (given_plain at rule.WrongType (related_value relation a b) plain) in
      (sum_plain scope at left both.0, sum_plain scope at right both.1)

  sum_plain : (scope : ScopeTree) (at : ℕ) (s : SumTree) → IsPlain (sum_value scope at s).value → SumHasNoEntry s
  sum_plain scope at (tree.LastTerm t) plain = term_plain scope at t plain
  sum_plain scope at (tree.TermThen t o others) plain =
      let x = (term_value scope at t).value in
      let rest = (summands scope at (first_integer x) o others).value in
      let both = summands_plain scope at (first_integer x) o others (grouped_integers_plain at rest plain) in
      (term_plain scope at t (first_integer_plain x both.0), both.1)

  summands_plain : (scope : ScopeTree) (at : ℕ) (left : IntegersTree) (o : Addition) (s : SumTree) → IntegersArePlain (summands scope at left o s).value
      → IntegersArePlain left × SumHasNoEntry s
  summands_plain scope at left o (tree.LastTerm t) plain =
      let x = (term_value scope at t).value in
      let both = beside_integer_plain (addition_operator o) left (first_integer x) plain in
      (both.0, term_plain scope at t (first_integer_plain x both.1))
  summands_plain scope at left o (tree.TermThen t next others) plain =
      let x = (term_value scope at t).value in
      let more = summands_plain scope at (beside_integer (addition_operator o) left (first_integer x)) next others plain in
      let both = beside_integer_plain (addition_operator o) left (first_integer x) more.0 in
      (both.0, (term_plain scope at t (first_integer_plain x both.1), more.1))

  term_plain : (scope : ScopeTree) (at : ℕ) (t : TermTree) → IsPlain (term_value scope at t).value → TermHasNoEntry t
  term_plain scope at (tree.LastUnary u) plain = unary_plain scope at u plain
  term_plain scope at (tree.UnaryThen u o others) plain =
      let x = (unary_value scope at u).value in
      let rest = (factors scope at (first_integer x) o others).value in
      let both = factors_plain scope at (first_integer x) o others (grouped_integers_plain at rest plain) in
      (unary_plain scope at u (first_integer_plain x both.0), both.1)

  factors_plain : (scope : ScopeTree) (at : ℕ) (left : IntegersTree) (o : Multiplication) (t : TermTree) → IntegersArePlain (factors scope at left o t).value
      → IntegersArePlain left × TermHasNoEntry t
  factors_plain scope at left o (tree.LastUnary u) plain =
      let x = (unary_value scope at u).value in
      let both = beside_integer_plain (multiplied o) left (first_integer x) plain in
      (both.0, unary_plain scope at u (first_integer_plain x both.1))
  factors_plain scope at left o (tree.UnaryThen u next others) plain =
      let x = (unary_value scope at u).value in
      let more = factors_plain scope at (beside_integer (multiplied o) left (first_integer x)) next others plain in
      let both = beside_integer_plain (multiplied o) left (first_integer x) more.0 in
      (both.0, (unary_plain scope at u (first_integer_plain x both.1), more.1))

  unary_plain : (scope : ScopeTree) (at : ℕ) (u : UnaryTree) → IsPlain (unary_value scope at u).value → UnaryHasNoEntry u
  unary_plain scope at (tree.Bare e) plain = primary_plain scope at e plain
  unary_plain scope at (tree.Signed sign u) plain =
      let x = (unary_value scope at u).value in
      unary_plain scope at u (value_signed_plain sign x (given_plain at rule.WrongType (signed_value sign x) plain))

  primary_plain : (scope : ScopeTree) (at : ℕ) (e : PrimaryTree) → IsPlain (primary_value scope at e).value → PrimaryHasNoEntry e
  primary_plain scope at (tree.Literal n) plain = tt
  primary_plain scope at (tree.Truth b) plain = tt
  primary_plain scope at (tree.Variable name) plain = tt
  primary_plain scope at (tree.Entry vector index) plain =
      entry_not_plain scope.inside at (vector_index scope at vector).value (index_value scope at index).value plain
  primary_plain scope at (tree.Size set) plain = tt
  primary_plain scope at (tree.Parentheses inside) plain = expression_plain scope at inside plain
