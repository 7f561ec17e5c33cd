-- An expression without a fault has a type where names have the meanings that they are known by.
use Rattle.std.proofs.Common.{◌≡◌, ◌⊎◌, inl, inr, refl, sym, subst, ap, ◌∙◌, ℕ, Bool, true, false, if◌then◌else◌, List, [], ◌∷◌, Option, Some, None}
use Rattle.std.specs.Option.{option_map}
use Rattle.std.specs.Str.{bytes_eq}
use Rattle.syntax.specs.Terminals.{Identifier}
use Rattle.syntax.specs.declared.operators.Addition.{Addition}
use Rattle.syntax.specs.declared.operators.Multiplication.{Multiplication}
use Rattle.syntax.specs.declared.operators.Prefix.TheVariants as prefix
use Rattle.syntax.specs.declared.operators.Relation.{Relation}
use Rattle.syntax.specs.declared.operators.Relation.TheVariants as relation
use Rattle.syntax.specs.SourceTrees as tree
use Rattle.syntax.specs.SourceTrees.{ExpressionTree, ConjunctionTree, ComparisonTree, SumTree, TermTree, UnaryTree, PrimaryTree}
use Rattle.typed_tree.specs.declared.expression.ComparisonOperator.{ComparisonOperator}
use Rattle.typed_tree.specs.declared.expression.ComparisonOperator.TheVariants as comparison
use Rattle.typed_tree.specs.declared.expression.Connective.{Connective}
use Rattle.typed_tree.specs.declared.expression.Connective.TheVariants as connective
use Rattle.typed_tree.specs.declared.expression.Endpoint.{Endpoint}
use Rattle.typed_tree.specs.declared.expression.Operator.{Operator}
use Rattle.typed_tree.specs.IntExpressionTree.{IntExpressionTree, Entry}
use Rattle.expression_types.specs.declared.fault.TypeRule.TheVariants as rule
use Rattle.expression_types.specs.declared.scope.Entity.{Entity}
use Rattle.expression_types.specs.declared.scope.Entity.TheVariants as entity
use Rattle.expression_types.specs.declared.scope.Inside.{Inside}
use Rattle.expression_types.specs.declared.scope.Inside.TheVariants as inside
use Rattle.expression_types.specs.Expression.{as_size, as_vector, comparison_value, conjunction_value, conjuncts, disjuncts, factors, index_lacks_value, index_value, no_vertex, primary_value}
use Rattle.expression_types.specs.Expression.{sum_value, summands, term_value, unary_value, used_name, used_as, value_of, vector_index}
use Rattle.expression_types.specs.ScopeTree.{found, ScopeTree}
use Rattle.expression_types.specs.Operators.{ConditionsTree, Conditions, MixedConditions, ErrorConditions, IntegersTree, Integers, MixedIntegers, ErrorIntegers, addition_operator, beside_condition}
use Rattle.expression_types.specs.Operators.{beside_integer, compared, compared_value, condition_index, entry_value, equated, equated_value, first_condition, first_integer, function_entry}
use Rattle.expression_types.specs.Operators.{given_or_fault, grouped_conditions, grouped_integers, main_entry, multiplied, related_value, signed_value}
use Rattle.expression_types.specs.ValueTree as value
use Rattle.expression_types.specs.ValueTree.{ValueTree, condition_reads_entry, named_value, reads_entry}
use Rattle.expression_types.specs.Faults.{WithFaults, fault_at, sure}
use Rattle.type_laws.specs.EntryAccess.{HasNoEntry}
use Rattle.type_laws.specs.ExpressionTypes.{ComparisonHas, ConjunctionHas, ExpressionHas, ExpressionType, IndexFits, IsEquality, Number, PrimaryHas, ReadsAsNumber, Set, SumHas, TermHas, Truth}
use Rattle.type_laws.specs.ExpressionTypes.{UnaryHas, Vertex, type_named}
use Rattle.type_laws.specs.Meanings as meaning
use Rattle.type_laws.specs.ScopeMeanings.{AreMeant, meaning_of, meanings_of}
use Rattle.type_laws.specs.Meanings.{Meaning, Meanings}
use Rattle.type_laws.proofs.Faultless.{both_none, no_left, no_right, not_empty}
use Rattle.type_laws.proofs.PlainIndexes.{IsPlain, expression_plain}
use Rattle.type_laws.proofs.TypedExpressions.{AreConditions, AreIntegers, IsOf, found_meaning}
use Rattle.type_laws.proofs.ClearValues.{IsClear, entry_parts}
use Rattle.type_laws.proofs.EntryReads.{index_clear}

-- what is found is one of them
pub record IsMeant (names : Meanings) (name : Identifier) (e : Entity) : Type 0 where
  pub means : found name.bytes names ≡ Some (meaning_of e)
  pub clear : e ≡ entity.Error → ⊥

entity_is : (a b : Entity) → Some a ≡ Some b → a ≡ b
entity_is a b is = cc

nothing_is : (a : Entity) → None ≡ Some a → ⊥
nothing_is a is = cc

found_clear : (name : List ℕ) (visible : List (List ℕ × Entity)) → AreMeant visible → (e : Entity) → found name visible ≡ Some e → e ≡ entity.Error → ⊥
found_clear name [] meant e is error = nothing_is e is
found_clear name (x ∷ others) meant e is error = at_test (bytes_eq name x.0) is (λ is. found_clear name others meant.1 e is error)
  where
    at_test : (b : Bool) → (if b then Some x.1 else found name others) ≡ Some e → (found name others ≡ Some e → ⊥) → ⊥
    at_test true is rest = meant.0 (entity_is x.1 e is ∙ error)
    at_test false is rest = rest is

pub used_meant : (scope : ScopeTree) (name : Identifier) → AreMeant scope.visible → (used_name scope name).faults ≡ [] → IsMeant (meanings_of scope.visible) name (used_name scope name).value
used_meant scope name meant none = at_found (found name.bytes scope.visible) refl none
  where
    at_found : (o : Option Entity) → found name.bytes scope.visible ≡ o → (used_as name o).faults ≡ [] → IsMeant (meanings_of scope.visible) name (used_as name o).value
    at_found None is none = absurd (not_empty _ _ none)
    at_found (Some e) is none = record { means = found_meaning name.bytes scope.visible ∙ ap (option_map meaning_of) is; clear = found_clear name.bytes scope.visible meant e is }

-- an expression has a type, and its value is one of that type
pub record Typed (m : WithFaults ValueTree) (Has : ExpressionType → Type 0) : Type 0 where
  pub type : ExpressionType
  pub has : Has type
  pub is : IsOf type m.value

of_type_clear : (type : ExpressionType) (v : ValueTree) → IsOf type v → IsClear v
of_type_clear Number (value.Integer e) is = tt
of_type_clear Number (value.Condition c) is = tt
of_type_clear Number (value.Vertex p) is = tt
of_type_clear Number (value.Set slot) is = tt
of_type_clear Number value.ErrorValue is = is
of_type_clear Truth (value.Integer e) is = tt
of_type_clear Truth (value.Condition c) is = tt
of_type_clear Truth (value.Vertex p) is = tt
of_type_clear Truth (value.Set slot) is = tt
of_type_clear Truth value.ErrorValue is = is
of_type_clear (Vertex p) (value.Integer e) is = tt
of_type_clear (Vertex p) (value.Condition c) is = tt
of_type_clear (Vertex p) (value.Vertex q) is = tt
of_type_clear (Vertex p) (value.Set slot) is = tt
of_type_clear (Vertex p) value.ErrorValue is = is
of_type_clear Set (value.Integer e) is = tt
of_type_clear Set (value.Condition c) is = tt
of_type_clear Set (value.Vertex p) is = tt
of_type_clear Set (value.Set slot) is = tt
of_type_clear Set value.ErrorValue is = is

typed_clear : {m : WithFaults ValueTree} {Has : ExpressionType → Type 0} → Typed m Has → IsClear m.value
typed_clear {m = m} t = of_type_clear t.type m.value t.is

-- names
named_typed : (at : ℕ) (e : Entity) → (e ≡ entity.Error → ⊥) → (given_or_fault at rule.WrongType (named_value e)).faults ≡ []
    → Typed (given_or_fault at rule.WrongType (named_value e)) (λ type. type_named (Some (meaning_of e)) ≡ Some type)
named_typed at (entity.Edges weights) clear none = absurd (not_empty _ _ none)
named_typed at (entity.Vector index) clear none = absurd (not_empty _ _ none)
named_typed at (entity.ConstantSet slot) clear none = record { type = Set; has = refl; is = tt }
named_typed at (entity.IntConstant name n) clear none = record { type = Number; has = refl; is = tt }
named_typed at (entity.BoolConstant name b) clear none = record { type = Truth; has = refl; is = tt }
named_typed at (entity.IntVariable slot) clear none = record { type = Number; has = refl; is = tt }
named_typed at (entity.BoolVariable slot) clear none = record { type = Truth; has = refl; is = tt }
named_typed at (entity.SetVariable slot) clear none = record { type = Set; has = refl; is = tt }
named_typed at (entity.LoopVariable slot) clear none = record { type = Number; has = refl; is = tt }
named_typed at (entity.Parameter p) clear none = record { type = Vertex p; has = refl; is = refl }
named_typed at entity.Weight clear none = record { type = Number; has = refl; is = tt }
named_typed at (entity.EdgeFunction index weighted) clear none = absurd (not_empty _ _ none)
named_typed at (entity.VertexFunction index) clear none = absurd (not_empty _ _ none)
named_typed at (entity.Filter index) clear none = absurd (not_empty _ _ none)
named_typed at entity.Main clear none = absurd (not_empty _ _ none)
named_typed at entity.Error clear none = absurd (clear refl)

pub record VectorFound (m : WithFaults (Option ℕ)) (names : Meanings) (name : Identifier) : Type 0 where
  pub vector : ℕ
  pub means : found name.bytes names ≡ Some (meaning.Vector vector)
  pub index : m.value ≡ Some vector

vector_typed : (at : ℕ) (names : Meanings) (name : Identifier) (e : Entity) → IsMeant names name e → (as_vector at e).faults ≡ [] → VectorFound (as_vector at e) names name
vector_typed at names name (entity.Edges weights) m none = absurd (not_empty _ _ none)
vector_typed at names name (entity.Vector index) m none = record { vector = index; means = m.means; index = refl }
vector_typed at names name (entity.ConstantSet slot) m none = absurd (not_empty _ _ none)
vector_typed at names name (entity.IntConstant x n) m none = absurd (not_empty _ _ none)
vector_typed at names name (entity.BoolConstant x b) m none = absurd (not_empty _ _ none)
vector_typed at names name (entity.IntVariable slot) m none = absurd (not_empty _ _ none)
vector_typed at names name (entity.BoolVariable slot) m none = absurd (not_empty _ _ none)
vector_typed at names name (entity.SetVariable slot) m none = absurd (not_empty _ _ none)
vector_typed at names name (entity.LoopVariable slot) m none = absurd (not_empty _ _ none)
vector_typed at names name (entity.Parameter p) m none = absurd (not_empty _ _ none)
vector_typed at names name entity.Weight m none = absurd (not_empty _ _ none)
vector_typed at names name (entity.EdgeFunction index weighted) m none = absurd (not_empty _ _ none)
vector_typed at names name (entity.VertexFunction index) m none = absurd (not_empty _ _ none)
vector_typed at names name (entity.Filter index) m none = absurd (not_empty _ _ none)
vector_typed at names name entity.Main m none = absurd (not_empty _ _ none)
vector_typed at names name entity.Error m none = absurd (m.clear refl)

pub vector_found : (scope : ScopeTree) (at : ℕ) (name : Identifier) → AreMeant scope.visible → (vector_index scope at name).faults ≡ []
    → VectorFound (vector_index scope at name) (meanings_of scope.visible) name
vector_found scope at name meant none =
    let e = used_name scope name in
    let x = vector_typed at (meanings_of scope.visible) name e.value (used_meant scope name meant (no_left e.faults _ none)) (no_right e.faults _ none) in
    record { vector = x.vector; means = x.means; index = x.index }

size_typed : (at : ℕ) (e : Entity) → (e ≡ entity.Error → ⊥) → (as_size at e).faults ≡ [] → (type_named (Some (meaning_of e)) ≡ Some Set) × IsOf Number (as_size at e).value
size_typed at (entity.ConstantSet slot) clear none = (refl, tt)
size_typed at (entity.SetVariable slot) clear none = (refl, tt)
size_typed at entity.Error clear none = absurd (clear refl)
size_typed at _ clear none = absurd (not_empty _ _ none)

-- operands, of which none is faulty
abbrev NoError : ConditionsTree → Type 0
NoError (Conditions c) = Unit {0}
NoError MixedConditions = Unit {0}
NoError ErrorConditions = ⊥

abbrev NoErrors : IntegersTree → Type 0
NoErrors (Integers e) = Unit {0}
NoErrors MixedIntegers = Unit {0}
NoErrors ErrorIntegers = ⊥

first_no_error : (type : ExpressionType) (v : ValueTree) → IsOf type v → NoError (first_condition v) × NoErrors (first_integer v)
first_no_error type (value.Integer e) is = (tt, tt)
first_no_error type (value.Condition c) is = (tt, tt)
first_no_error type (value.Vertex p) is = (tt, tt)
first_no_error type (value.Set slot) is = (tt, tt)
first_no_error Number value.ErrorValue is = absurd is
first_no_error Truth value.ErrorValue is = absurd is
first_no_error (Vertex p) value.ErrorValue is = absurd is
first_no_error Set value.ErrorValue is = absurd is

beside_no_error : (o : Connective) (a b : ConditionsTree) → NoError a → NoError b → NoError (beside_condition o a b)
beside_no_error o (Conditions a) (Conditions b) first second = tt
beside_no_error o (Conditions a) MixedConditions first second = tt
beside_no_error o (Conditions a) ErrorConditions first second = second
beside_no_error o MixedConditions (Conditions b) first second = tt
beside_no_error o MixedConditions MixedConditions first second = tt
beside_no_error o MixedConditions ErrorConditions first second = second
beside_no_error o ErrorConditions b first second = first

beside_no_errors : (o : Operator) (a b : IntegersTree) → NoErrors a → NoErrors b → NoErrors (beside_integer o a b)
beside_no_errors o (Integers a) (Integers b) first second = tt
beside_no_errors o (Integers a) MixedIntegers first second = tt
beside_no_errors o (Integers a) ErrorIntegers first second = second
beside_no_errors o MixedIntegers (Integers b) first second = tt
beside_no_errors o MixedIntegers MixedIntegers first second = tt
beside_no_errors o MixedIntegers ErrorIntegers first second = second
beside_no_errors o ErrorIntegers b first second = first

both_conditions : (o : Connective) (a b : ConditionsTree) → AreConditions (beside_condition o a b) → AreConditions a × AreConditions b
both_conditions o (Conditions a) (Conditions b) are = (tt, tt)
both_conditions o (Conditions a) MixedConditions are = absurd are
both_conditions o (Conditions a) ErrorConditions are = absurd are
both_conditions o MixedConditions (Conditions b) are = absurd are
both_conditions o MixedConditions MixedConditions are = absurd are
both_conditions o MixedConditions ErrorConditions are = absurd are
both_conditions o ErrorConditions b are = absurd are

both_integers : (o : Operator) (a b : IntegersTree) → AreIntegers (beside_integer o a b) → AreIntegers a × AreIntegers b
both_integers o (Integers a) (Integers b) are = (tt, tt)
both_integers o (Integers a) MixedIntegers are = absurd are
both_integers o (Integers a) ErrorIntegers are = absurd are
both_integers o MixedIntegers (Integers b) are = absurd are
both_integers o MixedIntegers MixedIntegers are = absurd are
both_integers o MixedIntegers ErrorIntegers are = absurd are
both_integers o ErrorIntegers b are = absurd are

grouped_are : (at : ℕ) (a : ConditionsTree) → NoError a → (grouped_conditions at a).faults ≡ [] → AreConditions a × IsOf Truth (grouped_conditions at a).value
grouped_are at (Conditions c) error none = (tt, tt)
grouped_are at MixedConditions error none = absurd (not_empty _ _ none)
grouped_are at ErrorConditions error none = absurd error

grouped_are_integers : (at : ℕ) (a : IntegersTree) → NoErrors a → (grouped_integers at a).faults ≡ [] → AreIntegers a × IsOf Number (grouped_integers at a).value
grouped_are_integers at (Integers e) error none = (tt, tt)
grouped_are_integers at MixedIntegers error none = absurd (not_empty _ _ none)
grouped_are_integers at ErrorIntegers error none = absurd error

-- the type of an operand that is a condition, or a number
truth_type : (type : ExpressionType) (v : ValueTree) → IsOf type v → AreConditions (first_condition v) → type ≡ Truth
truth_type Truth v is are = refl
truth_type Number (value.Integer e) is are = absurd are
truth_type Number (value.Condition c) is are = absurd is
truth_type Number (value.Vertex p) is are = absurd is
truth_type Number (value.Set slot) is are = absurd is
truth_type Number value.ErrorValue is are = absurd is
truth_type (Vertex p) (value.Integer e) is are = absurd is
truth_type (Vertex p) (value.Condition c) is are = absurd is
truth_type (Vertex p) (value.Vertex q) is are = absurd are
truth_type (Vertex p) (value.Set slot) is are = absurd is
truth_type (Vertex p) value.ErrorValue is are = absurd is
truth_type Set (value.Integer e) is are = absurd is
truth_type Set (value.Condition c) is are = absurd is
truth_type Set (value.Vertex q) is are = absurd is
truth_type Set (value.Set slot) is are = absurd are
truth_type Set value.ErrorValue is are = absurd is

number_type : (Has : ExpressionType → Type 0) (type : ExpressionType) (v : ValueTree) → Has type → IsOf type v → AreIntegers (first_integer v) → ReadsAsNumber Has
number_type Has Number v has is are = inl has
number_type Has (Vertex p) v has is are = inr (p, has)
number_type Has Truth (value.Integer e) has is are = absurd is
number_type Has Truth (value.Condition c) has is are = absurd are
number_type Has Truth (value.Vertex p) has is are = absurd is
number_type Has Truth (value.Set slot) has is are = absurd is
number_type Has Truth value.ErrorValue has is are = absurd is
number_type Has Set (value.Integer e) has is are = absurd is
number_type Has Set (value.Condition c) has is are = absurd is
number_type Has Set (value.Vertex p) has is are = absurd is
number_type Has Set (value.Set slot) has is are = absurd are
number_type Has Set value.ErrorValue has is are = absurd is

pub as_truth : (m : WithFaults ValueTree) (Has : ExpressionType → Type 0) → Typed m Has → AreConditions (first_condition m.value) → Has Truth
as_truth m Has t are = subst Has (truth_type t.type m.value t.is are) t.has

pub as_number : (m : WithFaults ValueTree) (Has : ExpressionType → Type 0) → Typed m Has → AreIntegers (first_integer m.value) → ReadsAsNumber Has
as_number m Has t are = number_type Has t.type m.value t.has t.is are

-- relations of operands
pub record BothIntegers (m : WithFaults ValueTree) (a b : IntegersTree) : Type 0 where
  pub first : AreIntegers a
  pub second : AreIntegers b
  pub is : IsOf Truth m.value

compared_are : (at : ℕ) (o : ComparisonOperator) (a b : IntegersTree) → NoErrors a → NoErrors b → (given_or_fault at rule.WrongType (compared o a b)).faults ≡ []
    → BothIntegers (given_or_fault at rule.WrongType (compared o a b)) a b
compared_are at o (Integers a) (Integers b) first second none = record { first = tt; second = tt; is = tt }
compared_are at o (Integers a) MixedIntegers first second none = absurd (not_empty _ _ none)
compared_are at o (Integers a) ErrorIntegers first second none = absurd second
compared_are at o MixedIntegers (Integers b) first second none = absurd (not_empty _ _ none)
compared_are at o MixedIntegers MixedIntegers first second none = absurd (not_empty _ _ none)
compared_are at o MixedIntegers ErrorIntegers first second none = absurd second
compared_are at o ErrorIntegers b first second none = absurd first

pub record BothConditions (m : WithFaults ValueTree) (a b : ConditionsTree) : Type 0 where
  pub first : AreConditions a
  pub second : AreConditions b
  pub is : IsOf Truth m.value

equated_are : (at : ℕ) (o : Connective) (a b : ConditionsTree) → NoError a → NoError b → (given_or_fault at rule.WrongType (equated o a b)).faults ≡ []
    → BothConditions (given_or_fault at rule.WrongType (equated o a b)) a b
equated_are at o (Conditions a) (Conditions b) first second none = record { first = tt; second = tt; is = tt }
equated_are at o (Conditions a) MixedConditions first second none = absurd (not_empty _ _ none)
equated_are at o (Conditions a) ErrorConditions first second none = absurd second
equated_are at o MixedConditions (Conditions b) first second none = absurd (not_empty _ _ none)
equated_are at o MixedConditions MixedConditions first second none = absurd (not_empty _ _ none)
equated_are at o MixedConditions ErrorConditions first second none = absurd second
equated_are at o ErrorConditions b first second none = absurd first

-- two numbers, or two conditions under a relation that takes them
abbrev AreRelated : Relation → WithFaults ValueTree → ValueTree → ValueTree → Type 0
AreRelated r m a b = BothIntegers m (first_integer a) (first_integer b) ⊎ (IsEquality r × BothConditions m (first_condition a) (first_condition b))

values_compared : (at : ℕ) (o : ComparisonOperator) (a b : ValueTree) → NoErrors (first_integer a) → NoErrors (first_integer b) → (given_or_fault at rule.WrongType (compared_value o a b)).faults ≡ []
    → BothIntegers (given_or_fault at rule.WrongType (compared_value o a b)) (first_integer a) (first_integer b)
values_compared at o a b first second none = compared_are at o (first_integer a) (first_integer b) first second none

values_equated : (r : Relation) (at : ℕ) (c : Connective) (o : ComparisonOperator) (a b : ValueTree) → IsEquality r → NoError (first_condition a) → NoError (first_condition b)
    → NoErrors (first_integer a)
    → NoErrors (first_integer b) → (given_or_fault at rule.WrongType (equated_value c o a b)).faults ≡ [] → AreRelated r (given_or_fault at rule.WrongType (equated_value c o a b)) a b
values_equated r at c o (value.Integer a) b equality x y first second none = inl (values_compared at o (value.Integer a) b first second none)
values_equated r at c o (value.Condition a) b equality x y first second none = inr (equality, equated_are at c (Conditions a) (first_condition b) x y none)
values_equated r at c o (value.Vertex p) b equality x y first second none = inl (values_compared at o (value.Vertex p) b first second none)
values_equated r at c o (value.Set slot) b equality x y first second none = inl (values_compared at o (value.Set slot) b first second none)
values_equated r at c o value.ErrorValue b equality x y first second none = absurd first

values_related : (at : ℕ) (r : Relation) (a b : ValueTree) → NoError (first_condition a) → NoError (first_condition b) → NoErrors (first_integer a) → NoErrors (first_integer b)
    → (given_or_fault at rule.WrongType (related_value r a b)).faults ≡ [] → AreRelated r (given_or_fault at rule.WrongType (related_value r a b)) a b
values_related at relation.Equal a b x y first second none = values_equated relation.Equal at connective.Equal comparison.Equal a b tt x y first second none
values_related at relation.NotEqual a b x y first second none = values_equated relation.NotEqual at connective.NotEqual comparison.NotEqual a b tt x y first second none
values_related at relation.Less a b x y first second none = inl (values_compared at comparison.Less a b first second none)
values_related at relation.LessOrEqual a b x y first second none = inl (values_compared at comparison.LessOrEqual a b first second none)
values_related at relation.Greater a b x y first second none = inl (values_compared at comparison.Greater a b first second none)
values_related at relation.GreaterOrEqual a b x y first second none = inl (values_compared at comparison.GreaterOrEqual a b first second none)

-- signs
negative_typed : (Has : ExpressionType → Type 0) (at : ℕ) (type : ExpressionType) (v : ValueTree) → Has type → IsOf type v
    → (given_or_fault at rule.WrongType (signed_value prefix.Minus v)).faults ≡ []
    → ReadsAsNumber Has × IsOf Number (given_or_fault at rule.WrongType (signed_value prefix.Minus v)).value
negative_typed Has at type (value.Integer e) has is none = (number_type Has type (value.Integer e) has is tt, tt)
negative_typed Has at type (value.Condition c) has is none = absurd (not_empty _ _ none)
negative_typed Has at type (value.Vertex p) has is none = (number_type Has type (value.Vertex p) has is tt, tt)
negative_typed Has at type (value.Set slot) has is none = absurd (not_empty _ _ none)
negative_typed Has at type value.ErrorValue has is none = absurd ((first_no_error type value.ErrorValue is).0)

negated_typed : (Has : ExpressionType → Type 0) (at : ℕ) (type : ExpressionType) (v : ValueTree) → Has type → IsOf type v → (given_or_fault at rule.WrongType (signed_value prefix.Not v)).faults ≡ []
    → Has Truth × IsOf Truth (given_or_fault at rule.WrongType (signed_value prefix.Not v)).value
negated_typed Has at type (value.Integer e) has is none = absurd (not_empty _ _ none)
negated_typed Has at type (value.Condition c) has is none = (subst Has (truth_type type (value.Condition c) is tt) has, tt)
negated_typed Has at type (value.Vertex p) has is none = absurd (not_empty _ _ none)
negated_typed Has at type (value.Set slot) has is none = absurd (not_empty _ _ none)
negated_typed Has at type value.ErrorValue has is none = absurd ((first_no_error type value.ErrorValue is).0)

-- entries
if_unread : (at vector : ℕ) (e : IntExpressionTree) (b : Bool) → reads_entry e ≡ b → (if b then fault_at at rule.WrongIndex value.ErrorValue else sure (value.Integer (Entry vector e))).faults ≡ []
    → (reads_entry e ≡ false) × IsOf Number (if b then fault_at at rule.WrongIndex value.ErrorValue else sure (value.Integer (Entry vector e))).value
if_unread at vector e true is none = absurd (not_empty _ _ none)
if_unread at vector e false is none = (is, tt)

no_condition : (at : ℕ) (b : Bool) → (condition_index at b).faults ≡ [] → ⊥
no_condition at true none = not_empty _ _ none
no_condition at false none = not_empty _ _ none

main_index_typed : (Has : ExpressionType → Type 0) (at vector : ℕ) (type : ExpressionType) (v : ValueTree) → Has type → IsOf type v → (main_entry at vector v).faults ≡ []
    → ReadsAsNumber Has × IsPlain v × IsOf Number (main_entry at vector v).value
main_index_typed Has at vector type (value.Integer e) has is none =
    let plain = if_unread at vector e (reads_entry e) refl none in (number_type Has type (value.Integer e) has is tt, plain.0, plain.1)
main_index_typed Has at vector type (value.Condition c) has is none = absurd (no_condition at (condition_reads_entry c) none)
main_index_typed Has at vector type (value.Vertex p) has is none = (number_type Has type (value.Vertex p) has is tt, tt, tt)
main_index_typed Has at vector type (value.Set slot) has is none = absurd (not_empty _ _ none)
main_index_typed Has at vector type value.ErrorValue has is none = absurd ((first_no_error type value.ErrorValue is).0)

vertex_type : (Has : ExpressionType → Type 0) (type : ExpressionType) (p : Endpoint) → Has type → IsOf type (value.Vertex p) → Has (Vertex p)
vertex_type Has (Vertex q) p has is = subst (λ x. Has (Vertex x)) (sym is) has
vertex_type Has Number p has is = absurd is
vertex_type Has Truth p has is = absurd is
vertex_type Has Set p has is = absurd is

function_index_typed : (Has : ExpressionType → Type 0) (at vector : ℕ) (type : ExpressionType) (v : ValueTree) → Has type → IsOf type v → (function_entry at vector v).faults ≡ []
    → ((p : Endpoint) × Has (Vertex p)) × IsOf Number (function_entry at vector v).value
function_index_typed Has at vector type (value.Integer e) has is none = absurd (not_empty _ _ none)
function_index_typed Has at vector type (value.Condition c) has is none = absurd (not_empty _ _ none)
function_index_typed Has at vector type (value.Vertex p) has is none = ((p, vertex_type Has type p has is), tt)
function_index_typed Has at vector type (value.Set slot) has is none = absurd (not_empty _ _ none)
function_index_typed Has at vector type value.ErrorValue has is none = absurd ((first_no_error type value.ErrorValue is).0)

-- an index that lacks a value is refused
if_index : (Has : ExpressionType → Type 0) (at vector : ℕ) (m : WithFaults ValueTree) (lacks : Bool) → (m.faults ≡ [] → Typed m Has)
    → (if lacks then sure no_vertex else m).faults ≡ [] → (function_entry at vector (if lacks then sure no_vertex else m).value).faults ≡ []
    → ((p : Endpoint) × Has (Vertex p)) × IsOf Number (function_entry at vector (if lacks then sure no_vertex else m).value).value
if_index Has at vector m true typed sound none = absurd (not_empty _ _ none)
if_index Has at vector m false typed sound none = let t = typed sound in function_index_typed Has at vector t.type m.value t.has t.is none

index_typed : (i : Inside) (scope : ScopeTree) (at vector : ℕ) (index : ExpressionTree) (names : Meanings)
    → ((value_of scope at index).faults ≡ [] → Typed (value_of scope at index) (ExpressionHas names i index))
    → (if index_lacks_value i scope index then sure no_vertex else value_of scope at index).faults ≡ []
    → (entry_value i at (Some vector) (if index_lacks_value i scope index then sure no_vertex else value_of scope at index).value).faults ≡ []
    → IndexFits i (ReadsAsNumber (ExpressionHas names i index)) (HasNoEntry index) ((p : Endpoint) × ExpressionHas names i index (Vertex p))
    × IsOf Number (entry_value i at (Some vector) (if index_lacks_value i scope index then sure no_vertex else value_of scope at index).value).value
index_typed inside.Main scope at vector index names typed sound none =
    let t = typed sound in
    let all = main_index_typed (ExpressionHas names inside.Main index) at vector t.type (value_of scope at index).value t.has t.is none in
    ((all.0, expression_plain scope at index all.1), all.2)
index_typed inside.EdgeFunction scope at vector index names typed sound none =
    if_index (ExpressionHas names inside.EdgeFunction index) at vector (value_of scope at index) (index_lacks_value inside.EdgeFunction scope index) typed sound none
index_typed inside.VertexFunction scope at vector index names typed sound none =
    if_index (ExpressionHas names inside.VertexFunction index) at vector (value_of scope at index) (index_lacks_value inside.VertexFunction scope index) typed sound none
index_typed inside.Filter scope at vector index names typed sound none =
    if_index (ExpressionHas names inside.Filter index) at vector (value_of scope at index) (index_lacks_value inside.Filter scope index) typed sound none

-- at the index of a vector that is there
entry_typed : (scope : ScopeTree) (at vector : ℕ) (index : Option ℕ) (subscript : ExpressionTree) → index ≡ Some vector
    → ((value_of scope at subscript).faults ≡ [] → Typed (value_of scope at subscript) (ExpressionHas (meanings_of scope.visible) scope.inside subscript))
    → (index_value scope at subscript).faults ≡ [] → (entry_value scope.inside at index (index_value scope at subscript).value).faults ≡ []
    → IndexFits scope.inside (ReadsAsNumber (ExpressionHas (meanings_of scope.visible) scope.inside subscript)) (HasNoEntry subscript)
    ((p : Endpoint) × ExpressionHas (meanings_of scope.visible) scope.inside subscript (Vertex p))
    × IsOf Number (entry_value scope.inside at index (index_value scope at subscript).value).value
entry_typed scope at vector index subscript is typed sound none =
    let all = index_typed scope.inside scope at vector subscript (meanings_of scope.visible) typed sound
    (subst (λ o. (entry_value scope.inside at o (index_value scope at subscript).value).faults ≡ []) is none) in
    (all.0, subst (λ o. IsOf Number (entry_value scope.inside at o (index_value scope at subscript).value).value) (sym is) all.1)

abbrev RowTyped : ConditionsTree → ConditionsTree → Type 0 → Type 0
RowTyped left result Has = NoError result × (AreConditions result → AreConditions left × Has)

abbrev NumbersTyped : IntegersTree → IntegersTree → Type 0 → Type 0
NumbersTyped left result Has = NoErrors result × (AreIntegers result → AreIntegers left × Has)

mutual
  pub expression_typed : (scope : ScopeTree) (at : ℕ) → AreMeant scope.visible → (e : ExpressionTree) → (value_of scope at e).faults ≡ []
      → Typed (value_of scope at e) (ExpressionHas (meanings_of scope.visible) scope.inside e)
  expression_typed scope at meant (tree.LastConjunction c) none =
      let t = conjunction_typed scope at meant c none in record { type = t.type; has = t.has; is = t.is }
  expression_typed scope at meant (tree.ConjunctionThen c others) none =
      let x = conjunction_value scope at c in
      let rest = disjuncts scope at (first_condition x.value) others in
      let behind = no_right x.faults _ none in
      let first = conjunction_typed scope at meant c (no_left x.faults _ none) in
      let more = disjuncts_typed scope at meant (first_condition x.value) others (first_no_error first.type x.value first.is).0 (no_left rest.faults _ behind) in
      let all = grouped_are at rest.value more.0 (no_right rest.faults _ behind) in
      let both = more.1 all.0 in
      record { type = Truth; has = (refl, as_truth x (ConjunctionHas (meanings_of scope.visible) scope.inside c) first both.0, both.1); is = all.1 }

  disjuncts_typed : (scope : ScopeTree) (at : ℕ) → AreMeant scope.visible → (left : ConditionsTree) (e : ExpressionTree) → NoError left → (disjuncts scope at left e).faults ≡ []
      → RowTyped left (disjuncts scope at left e).value (ExpressionHas (meanings_of scope.visible) scope.inside e Truth)
  disjuncts_typed scope at meant left (tree.LastConjunction c) error none =
      let x = conjunction_value scope at c in
      let first = conjunction_typed scope at meant c (no_left x.faults [] none) in (
        beside_no_error connective.Or left (first_condition x.value) error (first_no_error first.type x.value first.is).0,
        λ are. let both = both_conditions connective.Or left (first_condition x.value) are in
            (both.0, as_truth x (ConjunctionHas (meanings_of scope.visible) scope.inside c) first both.1),
      )
  disjuncts_typed scope at meant left (tree.ConjunctionThen c others) error none =
      let x = conjunction_value scope at c in
      let first = conjunction_typed scope at meant c (no_left x.faults _ none) in
      let both = beside_no_error connective.Or left (first_condition x.value) error (first_no_error first.type x.value first.is).0 in
      let more = disjuncts_typed scope at meant (beside_condition connective.Or left (first_condition x.value)) others both (no_right x.faults _ none) in (
        more.0,
        λ are. let further = more.1 are in let two = both_conditions connective.Or left (first_condition x.value) further.0 in
            (two.0, (refl, as_truth x (ConjunctionHas (meanings_of scope.visible) scope.inside c) first two.1, further.1)),
      )

  conjunction_typed : (scope : ScopeTree) (at : ℕ) → AreMeant scope.visible → (c : ConjunctionTree) → (conjunction_value scope at c).faults ≡ []
      → Typed (conjunction_value scope at c) (ConjunctionHas (meanings_of scope.visible) scope.inside c)
  conjunction_typed scope at meant (tree.LastComparison c) none =
      let t = comparison_typed scope at meant c none in record { type = t.type; has = t.has; is = t.is }
  conjunction_typed scope at meant (tree.ComparisonThen c others) none =
      let x = comparison_value scope at c in
      let rest = conjuncts scope at (first_condition x.value) others in
      let behind = no_right x.faults _ none in
      let first = comparison_typed scope at meant c (no_left x.faults _ none) in
      let more = conjuncts_typed scope at meant (first_condition x.value) others (first_no_error first.type x.value first.is).0 (no_left rest.faults _ behind) in
      let all = grouped_are at rest.value more.0 (no_right rest.faults _ behind) in
      let both = more.1 all.0 in
      record { type = Truth; has = (refl, as_truth x (ComparisonHas (meanings_of scope.visible) scope.inside c) first both.0, both.1); is = all.1 }

  conjuncts_typed : (scope : ScopeTree) (at : ℕ) → AreMeant scope.visible → (left : ConditionsTree) (c : ConjunctionTree) → NoError left → (conjuncts scope at left c).faults ≡ []
      → RowTyped left (conjuncts scope at left c).value (ConjunctionHas (meanings_of scope.visible) scope.inside c Truth)
  conjuncts_typed scope at meant left (tree.LastComparison c) error none =
      let x = comparison_value scope at c in
      let first = comparison_typed scope at meant c (no_left x.faults [] none) in (
        beside_no_error connective.And left (first_condition x.value) error (first_no_error first.type x.value first.is).0,
        λ are. let both = both_conditions connective.And left (first_condition x.value) are in
            (both.0, as_truth x (ComparisonHas (meanings_of scope.visible) scope.inside c) first both.1),
      )
  conjuncts_typed scope at meant left (tree.ComparisonThen c others) error none =
      let x = comparison_value scope at c in
      let first = comparison_typed scope at meant c (no_left x.faults _ none) in
      let both = beside_no_error connective.And left (first_condition x.value) error (first_no_error first.type x.value first.is).0 in
      let more = conjuncts_typed scope at meant (beside_condition connective.And left (first_condition x.value)) others both (no_right x.faults _ none) in (
        more.0,
        λ are. let further = more.1 are in let two = both_conditions connective.And left (first_condition x.value) further.0 in
            (two.0, (refl, as_truth x (ComparisonHas (meanings_of scope.visible) scope.inside c) first two.1, further.1)),
      )

  comparison_typed : (scope : ScopeTree) (at : ℕ) → AreMeant scope.visible → (c : ComparisonTree) → (comparison_value scope at c).faults ≡ []
      → Typed (comparison_value scope at c) (ComparisonHas (meanings_of scope.visible) scope.inside c)
  comparison_typed scope at meant (tree.OneSum s) none =
      let t = sum_typed scope at meant s none in record { type = t.type; has = t.has; is = t.is }
  comparison_typed scope at meant (tree.TwoSums left r right) none =
      let a = sum_value scope at left in
      let b = sum_value scope at right in
      let behind = no_right a.faults _ none in
      let first = sum_typed scope at meant left (no_left a.faults _ none) in
      let second = sum_typed scope at meant right (no_left b.faults _ behind) in
      let x = first_no_error first.type a.value first.is in
      let y = first_no_error second.type b.value second.is in
      elim (values_related at r a.value b.value x.0 y.0 x.1 y.1 (no_right b.faults _ behind)) [
        | inl numbers ↦ record {
          type = Truth;
          has = (
            refl,
            inl (
              as_number a (SumHas (meanings_of scope.visible) scope.inside left) first numbers.first,
              as_number b (SumHas (meanings_of scope.visible) scope.inside right) second numbers.second,
            ),
          );
          is = numbers.is;
        }
        | inr truths ↦ record {
          type = Truth;
          has = (
            refl,
            inr (
              truths.0,
              as_truth a (SumHas (meanings_of scope.visible) scope.inside left) first truths.1.first,
              as_truth b (SumHas (meanings_of scope.visible) scope.inside right) second truths.1.second,
            ),
          );
          is = truths.1.is;
        }
      ]

  sum_typed : (scope : ScopeTree) (at : ℕ) → AreMeant scope.visible → (s : SumTree) → (sum_value scope at s).faults ≡ []
      → Typed (sum_value scope at s) (SumHas (meanings_of scope.visible) scope.inside s)
  sum_typed scope at meant (tree.LastTerm t) none =
      let x = term_typed scope at meant t none in record { type = x.type; has = x.has; is = x.is }
  sum_typed scope at meant (tree.TermThen t o others) none =
      let x = term_value scope at t in
      let rest = summands scope at (first_integer x.value) o others in
      let behind = no_right x.faults _ none in
      let first = term_typed scope at meant t (no_left x.faults _ none) in
      let more = summands_typed scope at meant (first_integer x.value) o others (first_no_error first.type x.value first.is).1 (no_left rest.faults _ behind) in
      let all = grouped_are_integers at rest.value more.0 (no_right rest.faults _ behind) in
      let both = more.1 all.0 in
      record { type = Number; has = (refl, as_number x (TermHas (meanings_of scope.visible) scope.inside t) first both.0, both.1); is = all.1 }

  summands_typed : (scope : ScopeTree) (at : ℕ) → AreMeant scope.visible → (left : IntegersTree) (o : Addition) (s : SumTree) → NoErrors left → (summands scope at left o s).faults ≡ []
      → NumbersTyped left (summands scope at left o s).value (ReadsAsNumber (SumHas (meanings_of scope.visible) scope.inside s))
  summands_typed scope at meant left o (tree.LastTerm t) error none =
      let x = term_value scope at t in
      let first = term_typed scope at meant t (no_left x.faults [] none) in (
        beside_no_errors (addition_operator o) left (first_integer x.value) error (first_no_error first.type x.value first.is).1,
        λ are. let both = both_integers (addition_operator o) left (first_integer x.value) are in
            (both.0, as_number x (TermHas (meanings_of scope.visible) scope.inside t) first both.1),
      )
  summands_typed scope at meant left o (tree.TermThen t next others) error none =
      let x = term_value scope at t in
      let first = term_typed scope at meant t (no_left x.faults _ none) in
      let both = beside_no_errors (addition_operator o) left (first_integer x.value) error (first_no_error first.type x.value first.is).1 in
      let more = summands_typed scope at meant (beside_integer (addition_operator o) left (first_integer x.value)) next others both (no_right x.faults _ none) in (
        more.0,
        λ are. let further = more.1 are in let two = both_integers (addition_operator o) left (first_integer x.value) further.0 in
            (two.0, inl (refl, as_number x (TermHas (meanings_of scope.visible) scope.inside t) first two.1, further.1)),
      )

  term_typed : (scope : ScopeTree) (at : ℕ) → AreMeant scope.visible → (t : TermTree) → (term_value scope at t).faults ≡ []
      → Typed (term_value scope at t) (TermHas (meanings_of scope.visible) scope.inside t)
  term_typed scope at meant (tree.LastUnary u) none =
      let x = unary_typed scope at meant u none in record { type = x.type; has = x.has; is = x.is }
  term_typed scope at meant (tree.UnaryThen u o others) none =
      let x = unary_value scope at u in
      let rest = factors scope at (first_integer x.value) o others in
      let behind = no_right x.faults _ none in
      let first = unary_typed scope at meant u (no_left x.faults _ none) in
      let more = factors_typed scope at meant (first_integer x.value) o others (first_no_error first.type x.value first.is).1 (no_left rest.faults _ behind) in
      let all = grouped_are_integers at rest.value more.0 (no_right rest.faults _ behind) in
      let both = more.1 all.0 in
      record { type = Number; has = (refl, as_number x (UnaryHas (meanings_of scope.visible) scope.inside u) first both.0, both.1); is = all.1 }

  factors_typed : (scope : ScopeTree) (at : ℕ) → AreMeant scope.visible → (left : IntegersTree) (o : Multiplication) (t : TermTree) → NoErrors left → (factors scope at left o t).faults ≡ []
      → NumbersTyped left (factors scope at left o t).value (ReadsAsNumber (TermHas (meanings_of scope.visible) scope.inside t))
  factors_typed scope at meant left o (tree.LastUnary u) error none =
      let x = unary_value scope at u in
      let first = unary_typed scope at meant u (no_left x.faults [] none) in (
        beside_no_errors (multiplied o) left (first_integer x.value) error (first_no_error first.type x.value first.is).1,
        λ are. let both = both_integers (multiplied o) left (first_integer x.value) are in
            (both.0, as_number x (UnaryHas (meanings_of scope.visible) scope.inside u) first both.1),
      )
  factors_typed scope at meant left o (tree.UnaryThen u next others) error none =
      let x = unary_value scope at u in
      let first = unary_typed scope at meant u (no_left x.faults _ none) in
      let both = beside_no_errors (multiplied o) left (first_integer x.value) error (first_no_error first.type x.value first.is).1 in
      let more = factors_typed scope at meant (beside_integer (multiplied o) left (first_integer x.value)) next others both (no_right x.faults _ none) in (
        more.0,
        λ are. let further = more.1 are in let two = both_integers (multiplied o) left (first_integer x.value) further.0 in
            (two.0, inl (refl, as_number x (UnaryHas (meanings_of scope.visible) scope.inside u) first two.1, further.1)),
      )

  unary_typed : (scope : ScopeTree) (at : ℕ) → AreMeant scope.visible → (u : UnaryTree) → (unary_value scope at u).faults ≡ []
      → Typed (unary_value scope at u) (UnaryHas (meanings_of scope.visible) scope.inside u)
  unary_typed scope at meant (tree.Bare e) none =
      let x = primary_typed scope at meant e none in record { type = x.type; has = x.has; is = x.is }
  unary_typed scope at meant (tree.Signed prefix.Minus u) none =
      let x = unary_value scope at u in
      let first = unary_typed scope at meant u (no_left x.faults _ none) in
      let all = negative_typed (UnaryHas (meanings_of scope.visible) scope.inside u) at first.type x.value first.has first.is (no_right x.faults _ none) in
      record { type = Number; has = (refl, all.0); is = all.1 }
  unary_typed scope at meant (tree.Signed prefix.Not u) none =
      let x = unary_value scope at u in
      let first = unary_typed scope at meant u (no_left x.faults _ none) in
      let all = negated_typed (UnaryHas (meanings_of scope.visible) scope.inside u) at first.type x.value first.has first.is (no_right x.faults _ none) in
      record { type = Truth; has = (refl, all.0); is = all.1 }

  primary_typed : (scope : ScopeTree) (at : ℕ) → AreMeant scope.visible → (e : PrimaryTree) → (primary_value scope at e).faults ≡ []
      → Typed (primary_value scope at e) (PrimaryHas (meanings_of scope.visible) scope.inside e)
  primary_typed scope at meant (tree.Literal n) none = record { type = Number; has = refl; is = tt }
  primary_typed scope at meant (tree.Truth b) none = record { type = Truth; has = refl; is = tt }
  primary_typed scope at meant (tree.Variable name) none =
      let e = used_name scope name in
      let m = used_meant scope name meant (no_left e.faults _ none) in
      let t = named_typed at e.value m.clear (no_right e.faults _ none) in
      record { type = t.type; has = subst (λ o. type_named o ≡ Some t.type) (sym m.means) t.has; is = t.is }
  primary_typed scope at meant (tree.Entry vector subscript) none =
      let e = used_name scope vector in
      let x = index_value scope at subscript in
      let behind = no_right e.faults _ none in
      let sound = no_left x.faults _ behind in
      let clear = index_clear scope subscript (value_of scope at subscript) (λ none. typed_clear (expression_typed scope at meant subscript none)) sound in
      let parts = entry_parts scope.inside at e.value x.value clear (no_right x.faults _ behind) in
      let v = vector_found scope at vector meant (both_none e.faults _ (no_left e.faults _ none) parts.0) in
      let all = entry_typed scope at v.vector (vector_index scope at vector).value subscript v.index (expression_typed scope at meant subscript) sound parts.1 in
      record { type = Number; has = (refl, record { vector = v.vector; means = v.means }, all.0); is = all.1 }
  primary_typed scope at meant (tree.Size set) none =
      let e = used_name scope set in
      let m = used_meant scope set meant (no_left e.faults _ none) in
      let t = size_typed at e.value m.clear (no_right e.faults _ none) in
      record { type = Number; has = (refl, subst (λ o. type_named o ≡ Some Set) (sym m.means) t.0); is = t.1 }
  primary_typed scope at meant (tree.Parentheses inner) none =
      let t = expression_typed scope at meant inner none in record { type = t.type; has = t.has; is = t.is }
