-- An expression that has a type where its names have their meanings has no fault, and a value of that type.
use Rattle.std.proofs.Common.{◌≡◌, ◌⊎◌, inl, inr, refl, sym, subst, ap, ◌∙◌, ℕ, Bool, true, false, if◌then◌else◌, List, [], ◌∷◌, ◌++◌, Option, Some, None}
use Rattle.std.specs.Option.{option_map}
use Rattle.std.specs.Str.{bytes_eq}
use Rattle.syntax.specs.Terminals.{Identifier}
use Rattle.syntax.specs.declared.operators.Addition.{Addition}
use Rattle.syntax.specs.declared.operators.Multiplication.{Multiplication}
use Rattle.syntax.specs.declared.operators.Prefix.TheVariants as prefix
use Rattle.syntax.specs.declared.operators.Relation.{Relation}
use Rattle.syntax.specs.declared.operators.Relation.TheVariants as relation
use Rattle.syntax.specs.SourceTrees as tree
use Rattle.syntax.specs.SourceTrees.{ExpressionTree, ConjunctionTree, ComparisonTree, SumTree, TermTree, UnaryTree, PrimaryTree}
use Rattle.typed_tree.specs.declared.expression.ComparisonOperator.{ComparisonOperator}
use Rattle.typed_tree.specs.declared.expression.ComparisonOperator.TheVariants as comparison
use Rattle.typed_tree.specs.declared.expression.Connective.{Connective}
use Rattle.typed_tree.specs.declared.expression.Connective.TheVariants as connective
use Rattle.typed_tree.specs.declared.expression.Endpoint.{Endpoint}
use Rattle.typed_tree.specs.declared.expression.Operator.{Operator}
use Rattle.typed_tree.specs.IntExpressionTree.{IntExpressionTree, Entry}
use Rattle.expression_types.specs.declared.fault.TypeRule.TheVariants as rule
use Rattle.expression_types.specs.declared.scope.Entity.{Entity}
use Rattle.expression_types.specs.declared.scope.Entity.TheVariants as entity
use Rattle.expression_types.specs.declared.scope.Inside.{Inside}
use Rattle.expression_types.specs.declared.scope.Inside.TheVariants as inside
use Rattle.expression_types.specs.BareNames.{lone_name, comparison_name, conjunction_name, primary_name, sum_name, term_name, unary_name}
use Rattle.expression_types.specs.Expression.{as_size, as_vector, comparison_value, conjunction_value, conjuncts, disjuncts, entry_of, factors, index_lacks_value, index_value, lacks_value}
use Rattle.expression_types.specs.Expression.{name_lacks_value, name_value, no_vertex, primary_value, size_value, sum_value, summands, term_value, unary_value, used_name, used_as, value_of}
use Rattle.expression_types.specs.Expression.{vector_index}
use Rattle.expression_types.specs.ScopeTree.{found, ScopeTree}
use Rattle.expression_types.specs.Operators.{Conditions, ConditionsTree, ErrorConditions, ErrorIntegers, Integers, IntegersTree, MixedConditions, MixedIntegers, addition_operator, beside_condition}
use Rattle.expression_types.specs.Operators.{beside_integer, compared_value, entry_value, equated_value, first_condition, first_integer, function_entry, given_or_fault, grouped_conditions}
use Rattle.expression_types.specs.Operators.{grouped_integers, main_entry, multiplied, related_value, signed_value, unless_faulty}
use Rattle.expression_types.specs.ValueTree as value
use Rattle.expression_types.specs.ValueTree.{ValueTree, is_error, named_value, reads_entry}
use Rattle.expression_types.specs.Faults.{WithFaults, fault_at, sure}
use Rattle.type_laws.specs.EntryAccess.{HasNoEntry}
use Rattle.type_laws.specs.ExpressionTypes.{ComparisonHas, ConjunctionHas, ExpressionHas, ExpressionType, IndexFits, IsEquality, NameHas, Number, PrimaryHas, ReadsAsNumber, Set, SumHas, TermHas}
use Rattle.type_laws.specs.ExpressionTypes.{Truth, UnaryHas, Vertex, type_named}
use Rattle.type_laws.specs.Meanings as meaning
use Rattle.type_laws.specs.ScopeMeanings.{meaning_of, meanings_of}
use Rattle.type_laws.specs.Meanings.{Meaning, Meanings}
use Rattle.type_laws.proofs.PlainEntries.{ReadsNone, expression_reads_none}
use Rattle.type_laws.proofs.Faultless.{both_none, no_left, no_right}

if_meaning : (b : Bool) (e : Entity) (o : Option Entity) → (if b then Some (meaning_of e) else option_map meaning_of o) ≡ option_map meaning_of (if b then Some e else o)
if_meaning true e o = refl
if_meaning false e o = refl

pub found_meaning : (name : List ℕ) (visible : List (List ℕ × Entity)) → found name (meanings_of visible) ≡ option_map meaning_of (found name visible)
found_meaning name [] = refl
found_meaning name (x ∷ others) =
    ap (λ o. if bytes_eq name x.0 then Some (meaning_of x.1) else o) (found_meaning name others) ∙ if_meaning (bytes_eq name x.0) x.1 (found name others)

-- the value is one of the type
abbrev pub IsOf : ExpressionType → ValueTree → Type 0
IsOf Number (value.Integer e) = Unit {0}
IsOf Number _ = ⊥
IsOf Truth (value.Condition c) = Unit {0}
IsOf Truth _ = ⊥
IsOf (Vertex p) (value.Vertex q) = q ≡ p
IsOf (Vertex p) _ = ⊥
IsOf Set (value.Set slot) = Unit {0}
IsOf Set _ = ⊥

pub record Fine (m : WithFaults ValueTree) (type : ExpressionType) : Type 0 where
  pub none : m.faults ≡ []
  pub is : IsOf type m.value

pub fine_as : (m : WithFaults ValueTree) (a b : ExpressionType) → a ≡ b → Fine m b → Fine m a
fine_as m a b is fine = subst (λ t. Fine m t) (sym is) fine

some_type : (a b : ExpressionType) → Some a ≡ Some b → a ≡ b
some_type a b is = cc

no_type : (a : ExpressionType) → None ≡ Some a → ⊥
no_type a is = cc

named_as : (at : ℕ) (v : ValueTree) (a type : ExpressionType) → IsOf a v → Some a ≡ Some type → Fine (given_or_fault at rule.WrongType (Some v)) type
named_as at v a type of is = record { none = refl; is = subst (λ t. IsOf t v) (some_type a type is) of }

named_fine : (at : ℕ) (e : Entity) (type : ExpressionType) → type_named (Some (meaning_of e)) ≡ Some type → Fine (given_or_fault at rule.WrongType (named_value e)) type
named_fine at (entity.Edges weights) type has = absurd (no_type type has)
named_fine at (entity.Vector index) type has = absurd (no_type type has)
named_fine at (entity.ConstantSet slot) type has = named_as at _ Set type tt has
named_fine at (entity.IntConstant name n) type has = named_as at _ Number type tt has
named_fine at (entity.BoolConstant name b) type has = named_as at _ Truth type tt has
named_fine at (entity.IntVariable slot) type has = named_as at _ Number type tt has
named_fine at (entity.BoolVariable slot) type has = named_as at _ Truth type tt has
named_fine at (entity.SetVariable slot) type has = named_as at _ Set type tt has
named_fine at (entity.LoopVariable slot) type has = named_as at _ Number type tt has
named_fine at (entity.Parameter p) type has = named_as at _ (Vertex p) type refl has
named_fine at entity.Weight type has = named_as at _ Number type tt has
named_fine at (entity.EdgeFunction index weighted) type has = absurd (no_type type has)
named_fine at (entity.VertexFunction index) type has = absurd (no_type type has)
named_fine at (entity.Filter index) type has = absurd (no_type type has)
named_fine at entity.Main type has = absurd (no_type type has)
named_fine at entity.Error type has = absurd (no_type type has)

-- what a scope makes of a name that has a type
visible_type : (scope : ScopeTree) (name : Identifier) (type : ExpressionType) → NameHas (meanings_of scope.visible) name type
    → type_named (option_map meaning_of (found name.bytes scope.visible)) ≡ Some type
visible_type scope name type has = subst (λ o. type_named o ≡ Some type) (found_meaning name.bytes scope.visible) has

entity_fine : (at : ℕ) (name : Identifier) (o : Option Entity) (type : ExpressionType) → type_named (option_map meaning_of o) ≡ Some type
    → (used_as name o).faults ≡ [] × Fine (given_or_fault at rule.WrongType (named_value (used_as name o).value)) type
entity_fine at name None type has = absurd (no_type type has)
entity_fine at name (Some e) type has = (refl, named_fine at e type has)

name_fine : (scope : ScopeTree) (at : ℕ) (name : Identifier) (type : ExpressionType) → NameHas (meanings_of scope.visible) name type → Fine (name_value scope at name) type
name_fine scope at name type has =
    let both = entity_fine at name (found name.bytes scope.visible) type (visible_type scope name type has) in
    record { none = both_none (used_name scope name).faults _ both.0 both.1.none; is = both.1.is }

-- a name that means a vector
some_meaning : (a b : Meaning) → Some a ≡ Some b → a ≡ b
some_meaning a b is = cc

no_meaning : (a : Meaning) → None ≡ Some a → ⊥
no_meaning a is = cc

pub entity_means : (o : Option Entity) (m : Meaning) → option_map meaning_of o ≡ Some m → (e : Entity) × (o ≡ Some e) × (meaning_of e ≡ m)
entity_means None m is = absurd (no_meaning m is)
entity_means (Some e) m is = (e, refl, some_meaning (meaning_of e) m is)

vector_is : (at vector : ℕ) (e : Entity) → meaning_of e ≡ meaning.Vector vector → ((as_vector at e).faults ≡ []) × ((as_vector at e).value ≡ Some vector)
vector_is at vector (entity.Edges weights) is = absurd cc
vector_is at vector (entity.Vector index) is = (refl, cc)
vector_is at vector (entity.ConstantSet slot) is = absurd cc
vector_is at vector (entity.IntConstant name n) is = absurd cc
vector_is at vector (entity.BoolConstant name b) is = absurd cc
vector_is at vector (entity.IntVariable slot) is = absurd cc
vector_is at vector (entity.BoolVariable slot) is = absurd cc
vector_is at vector (entity.SetVariable slot) is = absurd cc
vector_is at vector (entity.LoopVariable slot) is = absurd cc
vector_is at vector (entity.Parameter p) is = absurd cc
vector_is at vector entity.Weight is = absurd cc
vector_is at vector (entity.EdgeFunction index weighted) is = absurd cc
vector_is at vector (entity.VertexFunction index) is = absurd cc
vector_is at vector (entity.Filter index) is = absurd cc
vector_is at vector entity.Main is = absurd cc
vector_is at vector entity.Error is = absurd cc

-- what a name that means something is used as
pub used_means : (scope : ScopeTree) (name : Identifier) (m : Meaning) → found name.bytes (meanings_of scope.visible) ≡ Some m
    → ((used_name scope name).faults ≡ []) × (meaning_of (used_name scope name).value ≡ m)
used_means scope name m is = at_entity (found name.bytes scope.visible) (subst (λ o. o ≡ Some m) (found_meaning name.bytes scope.visible) is)
  where
    at_entity : (o : Option Entity) → option_map meaning_of o ≡ Some m → ((used_as name o).faults ≡ []) × (meaning_of (used_as name o).value ≡ m)
    at_entity None is = absurd (no_meaning m is)
    at_entity (Some e) is = (refl, some_meaning (meaning_of e) m is)

pub vector_fine : (scope : ScopeTree) (at : ℕ) (name : Identifier) (vector : ℕ) → found name.bytes (meanings_of scope.visible) ≡ Some (meaning.Vector vector)
    → ((vector_index scope at name).faults ≡ []) × ((vector_index scope at name).value ≡ Some vector)
vector_fine scope at name vector is =
    let u = used_means scope name (meaning.Vector vector) is in
    let v = vector_is at vector (used_name scope name).value u.1 in
    (both_none (used_name scope name).faults _ u.0 v.0, v.1)

-- the size of a set
set_size : (at : ℕ) (e : Entity) → type_named (Some (meaning_of e)) ≡ Some Set → Fine (as_size at e) Number
set_size at (entity.Edges weights) has = absurd (no_type Set has)
set_size at (entity.Vector index) has = absurd (no_type Set has)
set_size at (entity.ConstantSet slot) has = record { none = refl; is = tt }
set_size at (entity.IntConstant name n) has = absurd cc
set_size at (entity.BoolConstant name b) has = absurd cc
set_size at (entity.IntVariable slot) has = absurd cc
set_size at (entity.BoolVariable slot) has = absurd cc
set_size at (entity.SetVariable slot) has = record { none = refl; is = tt }
set_size at (entity.LoopVariable slot) has = absurd cc
set_size at (entity.Parameter p) has = absurd cc
set_size at entity.Weight has = absurd cc
set_size at (entity.EdgeFunction index weighted) has = absurd (no_type Set has)
set_size at (entity.VertexFunction index) has = absurd (no_type Set has)
set_size at (entity.Filter index) has = absurd (no_type Set has)
set_size at entity.Main has = absurd (no_type Set has)
set_size at entity.Error has = absurd (no_type Set has)

size_fine : (scope : ScopeTree) (at : ℕ) (name : Identifier) → NameHas (meanings_of scope.visible) name Set → Fine (size_value scope at name) Number
size_fine scope at name has = at_entity (found name.bytes scope.visible) (visible_type scope name Set has)
  where
    at_entity : (o : Option Entity) → type_named (option_map meaning_of o) ≡ Some Set
        → Fine (record { faults = (used_as name o).faults ++ (as_size at (used_as name o).value).faults; value = (as_size at (used_as name o).value).value }) Number
    at_entity None has = absurd (no_type Set has)
    at_entity (Some e) has = set_size at e has

-- operands
abbrev pub AreConditions : ConditionsTree → Type 0
AreConditions (Conditions c) = Unit {0}
AreConditions MixedConditions = ⊥
AreConditions ErrorConditions = ⊥

abbrev pub AreIntegers : IntegersTree → Type 0
AreIntegers (Integers e) = Unit {0}
AreIntegers MixedIntegers = ⊥
AreIntegers ErrorIntegers = ⊥

first_condition_is : (v : ValueTree) → IsOf Truth v → AreConditions (first_condition v)
first_condition_is (value.Condition c) is = tt
first_condition_is (value.Integer e) is = absurd is
first_condition_is (value.Vertex p) is = absurd is
first_condition_is (value.Set slot) is = absurd is
first_condition_is value.ErrorValue is = absurd is

beside_condition_is : (o : Connective) (a b : ConditionsTree) → AreConditions a → AreConditions b → AreConditions (beside_condition o a b)
beside_condition_is o (Conditions a) (Conditions b) first second = tt
beside_condition_is o (Conditions a) MixedConditions first second = absurd second
beside_condition_is o (Conditions a) ErrorConditions first second = absurd second
beside_condition_is o MixedConditions b first second = absurd first
beside_condition_is o ErrorConditions b first second = absurd first

beside_integer_is : (o : Operator) (a b : IntegersTree) → AreIntegers a → AreIntegers b → AreIntegers (beside_integer o a b)
beside_integer_is o (Integers a) (Integers b) first second = tt
beside_integer_is o (Integers a) MixedIntegers first second = absurd second
beside_integer_is o (Integers a) ErrorIntegers first second = absurd second
beside_integer_is o MixedIntegers b first second = absurd first
beside_integer_is o ErrorIntegers b first second = absurd first

grouped_conditions_fine : (at : ℕ) (a : ConditionsTree) → AreConditions a → Fine (grouped_conditions at a) Truth
grouped_conditions_fine at (Conditions c) is = record { none = refl; is = tt }
grouped_conditions_fine at MixedConditions is = absurd is
grouped_conditions_fine at ErrorConditions is = absurd is

grouped_integers_fine : (at : ℕ) (a : IntegersTree) → AreIntegers a → Fine (grouped_integers at a) Number
grouped_integers_fine at (Integers e) is = record { none = refl; is = tt }
grouped_integers_fine at MixedIntegers is = absurd is
grouped_integers_fine at ErrorIntegers is = absurd is

-- a value that reads as a number
abbrev pub IsNumeric : ValueTree → Type 0
IsNumeric (value.Integer e) = Unit {0}
IsNumeric (value.Condition c) = ⊥
IsNumeric (value.Vertex p) = Unit {0}
IsNumeric (value.Set slot) = ⊥
IsNumeric value.ErrorValue = ⊥

number_is : (v : ValueTree) → IsOf Number v → IsNumeric v
number_is (value.Integer e) is = tt
number_is (value.Condition c) is = is
number_is (value.Vertex p) is = absurd is
number_is (value.Set slot) is = is
number_is value.ErrorValue is = is

vertex_is : (p : Endpoint) (v : ValueTree) → IsOf (Vertex p) v → IsNumeric v
vertex_is p (value.Integer e) is = absurd is
vertex_is p (value.Condition c) is = is
vertex_is p (value.Vertex q) is = tt
vertex_is p (value.Set slot) is = is
vertex_is p value.ErrorValue is = is

pub record NumericFine (m : WithFaults ValueTree) : Type 0 where
  pub none : m.faults ≡ []
  pub is : IsNumeric m.value

pub numeric_fine : (m : WithFaults ValueTree) (Has : ExpressionType → Type 0) → ((type : ExpressionType) → Has type → Fine m type) → ReadsAsNumber Has → NumericFine m
numeric_fine m Has fine number =
    elim number [
      | inl is ↦ record { none = (fine Number is).none; is = number_is m.value (fine Number is).is }
      | inr at ↦ record { none = (fine (Vertex at.0) at.1).none; is = vertex_is at.0 m.value (fine (Vertex at.0) at.1).is }
    ]

first_integer_is : (v : ValueTree) → IsNumeric v → AreIntegers (first_integer v)
first_integer_is (value.Integer e) is = tt
first_integer_is (value.Condition c) is = is
first_integer_is (value.Vertex p) is = tt
first_integer_is (value.Set slot) is = is
first_integer_is value.ErrorValue is = is

-- relations and signs
compared_fine : (at : ℕ) (o : ComparisonOperator) (a b : ValueTree) → IsNumeric a → IsNumeric b
    → Fine (given_or_fault at rule.WrongType (compared_value o a b)) Truth
compared_fine at o (value.Integer a) (value.Integer b) first second = record { none = refl; is = tt }
compared_fine at o (value.Integer a) (value.Condition c) first second = absurd second
compared_fine at o (value.Integer a) (value.Vertex q) first second = record { none = refl; is = tt }
compared_fine at o (value.Integer a) (value.Set slot) first second = absurd second
compared_fine at o (value.Integer a) value.ErrorValue first second = absurd second
compared_fine at o (value.Vertex p) (value.Integer b) first second = record { none = refl; is = tt }
compared_fine at o (value.Vertex p) (value.Condition c) first second = absurd second
compared_fine at o (value.Vertex p) (value.Vertex q) first second = record { none = refl; is = tt }
compared_fine at o (value.Vertex p) (value.Set slot) first second = absurd second
compared_fine at o (value.Vertex p) value.ErrorValue first second = absurd second
compared_fine at o (value.Condition c) b first second = absurd first
compared_fine at o (value.Set slot) b first second = absurd first
compared_fine at o value.ErrorValue b first second = absurd first

equated_numbers : (at : ℕ) (c : Connective) (o : ComparisonOperator) (a b : ValueTree) → IsNumeric a → IsNumeric b
    → Fine (given_or_fault at rule.WrongType (equated_value c o a b)) Truth
equated_numbers at c o (value.Integer a) b first second = compared_fine at o (value.Integer a) b first second
equated_numbers at c o (value.Vertex p) b first second = compared_fine at o (value.Vertex p) b first second
equated_numbers at c o (value.Condition x) b first second = absurd first
equated_numbers at c o (value.Set slot) b first second = absurd first
equated_numbers at c o value.ErrorValue b first second = absurd first

numbers_related : (at : ℕ) (r : Relation) (a b : ValueTree) → IsNumeric a → IsNumeric b → Fine (given_or_fault at rule.WrongType (related_value r a b)) Truth
numbers_related at relation.Equal a b first second = equated_numbers at connective.Equal comparison.Equal a b first second
numbers_related at relation.NotEqual a b first second = equated_numbers at connective.NotEqual comparison.NotEqual a b first second
numbers_related at relation.Less a b first second = compared_fine at comparison.Less a b first second
numbers_related at relation.LessOrEqual a b first second = compared_fine at comparison.LessOrEqual a b first second
numbers_related at relation.Greater a b first second = compared_fine at comparison.Greater a b first second
numbers_related at relation.GreaterOrEqual a b first second = compared_fine at comparison.GreaterOrEqual a b first second

equated_truths : (at : ℕ) (c : Connective) (o : ComparisonOperator) (a b : ValueTree) → IsOf Truth a → IsOf Truth b
    → Fine (given_or_fault at rule.WrongType (equated_value c o a b)) Truth
equated_truths at c o (value.Condition a) (value.Condition b) first second = record { none = refl; is = tt }
equated_truths at c o (value.Condition a) (value.Integer b) first second = absurd second
equated_truths at c o (value.Condition a) (value.Vertex q) first second = absurd second
equated_truths at c o (value.Condition a) (value.Set slot) first second = absurd second
equated_truths at c o (value.Condition a) value.ErrorValue first second = absurd second
equated_truths at c o (value.Integer a) b first second = absurd first
equated_truths at c o (value.Vertex p) b first second = absurd first
equated_truths at c o (value.Set slot) b first second = absurd first
equated_truths at c o value.ErrorValue b first second = absurd first

truths_related : (at : ℕ) (r : Relation) (a b : ValueTree) → IsEquality r → IsOf Truth a → IsOf Truth b → Fine (given_or_fault at rule.WrongType (related_value r a b)) Truth
truths_related at relation.Equal a b equality first second = equated_truths at connective.Equal comparison.Equal a b first second
truths_related at relation.NotEqual a b equality first second = equated_truths at connective.NotEqual comparison.NotEqual a b first second
truths_related at relation.Less a b equality first second = absurd equality
truths_related at relation.LessOrEqual a b equality first second = absurd equality
truths_related at relation.Greater a b equality first second = absurd equality
truths_related at relation.GreaterOrEqual a b equality first second = absurd equality

negative_fine : (at : ℕ) (v : ValueTree) → IsNumeric v → Fine (given_or_fault at rule.WrongType (signed_value prefix.Minus v)) Number
negative_fine at (value.Integer e) is = record { none = refl; is = tt }
negative_fine at (value.Condition c) is = absurd is
negative_fine at (value.Vertex p) is = record { none = refl; is = tt }
negative_fine at (value.Set slot) is = absurd is
negative_fine at value.ErrorValue is = absurd is

negated_fine : (at : ℕ) (v : ValueTree) → IsOf Truth v → Fine (given_or_fault at rule.WrongType (signed_value prefix.Not v)) Truth
negated_fine at (value.Integer e) is = absurd is
negated_fine at (value.Condition c) is = record { none = refl; is = tt }
negated_fine at (value.Vertex p) is = absurd is
negated_fine at (value.Set slot) is = absurd is
negated_fine at value.ErrorValue is = absurd is

-- a name that has a type lacks no value, so an index that has one is looked at as any expression
has_value : (e : Entity) (type : ExpressionType) → type_named (Some (meaning_of e)) ≡ Some type → lacks_value (Some e) ≡ false
has_value (entity.Edges weights) type has = absurd (no_type type has)
has_value (entity.Vector index) type has = absurd (no_type type has)
has_value (entity.EdgeFunction index weighted) type has = absurd (no_type type has)
has_value (entity.VertexFunction index) type has = absurd (no_type type has)
has_value (entity.Filter index) type has = absurd (no_type type has)
has_value entity.Main type has = absurd (no_type type has)
has_value entity.Error type has = absurd (no_type type has)
has_value (entity.ConstantSet slot) type has = refl
has_value (entity.IntConstant name n) type has = refl
has_value (entity.BoolConstant name b) type has = refl
has_value (entity.IntVariable slot) type has = refl
has_value (entity.BoolVariable slot) type has = refl
has_value (entity.SetVariable slot) type has = refl
has_value (entity.LoopVariable slot) type has = refl
has_value (entity.Parameter p) type has = refl
has_value entity.Weight type has = refl

visible_has_value : (o : Option Entity) (type : ExpressionType) → type_named (option_map meaning_of o) ≡ Some type → lacks_value o ≡ false
visible_has_value None type has = refl
visible_has_value (Some e) type has = has_value e type has

mutual
  bare_has_value : (scope : ScopeTree) (i : Inside) (e : ExpressionTree) (type : ExpressionType) → ExpressionHas (meanings_of scope.visible) i e type
      → name_lacks_value scope (lone_name e) ≡ false
  bare_has_value scope i (tree.LastConjunction c) type has = conjunction_has_value scope i c type has
  bare_has_value scope i (tree.ConjunctionThen c others) type has = refl

  conjunction_has_value : (scope : ScopeTree) (i : Inside) (c : ConjunctionTree) (type : ExpressionType) → ConjunctionHas (meanings_of scope.visible) i c type
      → name_lacks_value scope (conjunction_name c) ≡ false
  conjunction_has_value scope i (tree.LastComparison c) type has = comparison_has_value scope i c type has
  conjunction_has_value scope i (tree.ComparisonThen c others) type has = refl

  comparison_has_value : (scope : ScopeTree) (i : Inside) (c : ComparisonTree) (type : ExpressionType) → ComparisonHas (meanings_of scope.visible) i c type
      → name_lacks_value scope (comparison_name c) ≡ false
  comparison_has_value scope i (tree.OneSum s) type has = sum_has_value scope i s type has
  comparison_has_value scope i (tree.TwoSums left relation right) type has = refl

  sum_has_value : (scope : ScopeTree) (i : Inside) (s : SumTree) (type : ExpressionType) → SumHas (meanings_of scope.visible) i s type → name_lacks_value scope (sum_name s) ≡ false
  sum_has_value scope i (tree.LastTerm t) type has = term_has_value scope i t type has
  sum_has_value scope i (tree.TermThen t operator others) type has = refl

  term_has_value : (scope : ScopeTree) (i : Inside) (t : TermTree) (type : ExpressionType) → TermHas (meanings_of scope.visible) i t type → name_lacks_value scope (term_name t) ≡ false
  term_has_value scope i (tree.LastUnary u) type has = unary_has_value scope i u type has
  term_has_value scope i (tree.UnaryThen u operator others) type has = refl

  unary_has_value : (scope : ScopeTree) (i : Inside) (u : UnaryTree) (type : ExpressionType) → UnaryHas (meanings_of scope.visible) i u type → name_lacks_value scope (unary_name u) ≡ false
  unary_has_value scope i (tree.Bare e) type has = primary_has_value scope i e type has
  unary_has_value scope i (tree.Signed sign u) type has = refl

  primary_has_value : (scope : ScopeTree) (i : Inside) (e : PrimaryTree) (type : ExpressionType) → PrimaryHas (meanings_of scope.visible) i e type
      → name_lacks_value scope (primary_name e) ≡ false
  primary_has_value scope i (tree.Literal n) type has = refl
  primary_has_value scope i (tree.Truth b) type has = refl
  primary_has_value scope i (tree.Variable name) type has = visible_has_value (found name.bytes scope.visible) type (visible_type scope name type has)
  primary_has_value scope i (tree.Entry vector index) type has = refl
  primary_has_value scope i (tree.Size set) type has = refl
  primary_has_value scope i (tree.Parentheses inside) type has = bare_has_value scope i inside type has

index_has_value : (i : Inside) (scope : ScopeTree) (at : ℕ) (index : ExpressionTree) (type : ExpressionType) → ExpressionHas (meanings_of scope.visible) i index type
    → index_lacks_value i scope index ≡ false
index_has_value inside.Main scope at index type has = refl
index_has_value inside.EdgeFunction scope at index type has = bare_has_value scope inside.EdgeFunction index type has
index_has_value inside.VertexFunction scope at index type has = bare_has_value scope inside.VertexFunction index type has
index_has_value inside.Filter scope at index type has = bare_has_value scope inside.Filter index type has

pub index_is_value : (scope : ScopeTree) (at : ℕ) (index : ExpressionTree) (type : ExpressionType) → ExpressionHas (meanings_of scope.visible) scope.inside index type
    → index_value scope at index ≡ value_of scope at index
index_is_value scope at index type has =
    ap (λ b. if b then sure no_vertex else value_of scope at index) (index_has_value scope.inside scope at index type has)

-- entries
if_plain_entry : (at vector : ℕ) (e : IntExpressionTree) → reads_entry e ≡ false → Fine (main_entry at vector (value.Integer e)) Number
if_plain_entry at vector e plain = subst (λ b. Fine (if b then fault_at at rule.WrongIndex value.ErrorValue else sure (value.Integer (Entry vector e))) Number) (sym plain)
    (record { none = refl; is = tt })

main_entry_fine : (at vector : ℕ) (v : ValueTree) → IsNumeric v → ReadsNone v → Fine (main_entry at vector v) Number
main_entry_fine at vector (value.Integer e) is plain = if_plain_entry at vector e plain
main_entry_fine at vector (value.Condition c) is plain = absurd is
main_entry_fine at vector (value.Vertex p) is plain = record { none = refl; is = tt }
main_entry_fine at vector (value.Set slot) is plain = absurd is
main_entry_fine at vector value.ErrorValue is plain = absurd is

function_entry_fine : (at vector : ℕ) (p : Endpoint) (v : ValueTree) → IsOf (Vertex p) v → Fine (function_entry at vector v) Number
function_entry_fine at vector p (value.Integer e) is = absurd is
function_entry_fine at vector p (value.Condition c) is = absurd is
function_entry_fine at vector p (value.Vertex q) is = record { none = refl; is = tt }
function_entry_fine at vector p (value.Set slot) is = absurd is
function_entry_fine at vector p value.ErrorValue is = absurd is

-- an index that fits has no fault, and the entry at it has none
abbrev EntryFine : Inside → ℕ → ℕ → WithFaults ValueTree → Type 0
EntryFine i at vector index = (index.faults ≡ []) × Fine (entry_value i at (Some vector) index.value) Number

main_index_fine : (scope : ScopeTree) (at vector : ℕ) (index : ExpressionTree) → NumericFine (value_of scope at index) → HasNoEntry index
    → EntryFine inside.Main at vector (if index_lacks_value inside.Main scope index then sure no_vertex else value_of scope at index)
main_index_fine scope at vector index number none =
    (number.none, main_entry_fine at vector (value_of scope at index).value number.is (expression_reads_none scope at index none))

vertex_index_fine : (i : Inside) (scope : ScopeTree) (at vector : ℕ) (index : ExpressionTree) (p : Endpoint) → ((m : WithFaults ValueTree) → Fine m (Vertex p) → EntryFine i at vector m)
    → ExpressionHas (meanings_of scope.visible) i index (Vertex p) → Fine (value_of scope at index) (Vertex p)
    → EntryFine i at vector (if index_lacks_value i scope index then sure no_vertex else value_of scope at index)
vertex_index_fine i scope at vector index p entry has fine =
    subst (λ b. EntryFine i at vector (if b then sure no_vertex else value_of scope at index)) (sym (index_has_value i scope at index (Vertex p) has)) (entry (value_of scope at index) fine)

index_fine : (i : Inside) (scope : ScopeTree) (at vector : ℕ) (index : ExpressionTree)
    → ((type : ExpressionType) → ExpressionHas (meanings_of scope.visible) i index type → Fine (value_of scope at index) type)
    → IndexFits i (ReadsAsNumber (ExpressionHas (meanings_of scope.visible) i index)) (HasNoEntry index) ((p : Endpoint) × ExpressionHas (meanings_of scope.visible) i index (Vertex p))
    → EntryFine i at vector (if index_lacks_value i scope index then sure no_vertex else value_of scope at index)
index_fine inside.Main scope at vector index fine fits =
    main_index_fine scope at vector index (numeric_fine (value_of scope at index) (ExpressionHas (meanings_of scope.visible) inside.Main index) fine fits.0) fits.1
index_fine inside.EdgeFunction scope at vector index fine fits =
    vertex_index_fine inside.EdgeFunction scope at vector index fits.0 (λ m is. (is.none, function_entry_fine at vector fits.0 m.value is.is)) fits.1 (fine (Vertex fits.0) fits.1)
index_fine inside.VertexFunction scope at vector index fine fits =
    vertex_index_fine inside.VertexFunction scope at vector index fits.0 (λ m is. (is.none, function_entry_fine at vector fits.0 m.value is.is)) fits.1 (fine (Vertex fits.0) fits.1)
index_fine inside.Filter scope at vector index fine fits =
    vertex_index_fine inside.Filter scope at vector index fits.0 (λ m is. (is.none, function_entry_fine at vector fits.0 m.value is.is)) fits.1 (fine (Vertex fits.0) fits.1)

entry_fine : (scope : ScopeTree) (at vector : ℕ) (index : Option ℕ) (subscript : WithFaults ValueTree) → index ≡ Some vector → EntryFine scope.inside at vector subscript
    → (subscript.faults ++ (entry_value scope.inside at index subscript.value).faults ≡ []) × IsOf Number (entry_value scope.inside at index subscript.value).value
entry_fine scope at vector index subscript is fine =
    let here = subst (λ o. Fine (entry_value scope.inside at o subscript.value) Number) (sym is) fine.1 in
    (both_none subscript.faults _ fine.0 here.none, here.is)

-- a name that is a vector and an index that fits have no fault together
unless_none : {A : Type 0} (faulty : Bool) (m : WithFaults A) → m.faults ≡ [] → (unless_faulty faulty m).faults ≡ []
unless_none true m none = refl
unless_none false m none = none

entry_none : (i : Inside) (at : ℕ) (e : WithFaults Entity) (index : WithFaults ValueTree) → e.faults ++ (as_vector at e.value).faults ≡ []
    → index.faults ++ (entry_value i at (as_vector at e.value).value index.value).faults ≡ []
    → e.faults ++ (index.faults ++ (entry_of i at e.value index.value).faults) ≡ []
entry_none i at e index named indexed =
    let vector = unless_faulty (is_error index.value) (as_vector at e.value) in
    both_none e.faults _ (no_left e.faults _ named) (both_none index.faults _ (no_left index.faults _ indexed)
    (both_none vector.faults _ (unless_none (is_error index.value) (as_vector at e.value) (no_right e.faults _ named)) (no_right index.faults _ indexed)))

-- a row of operands reads as a number as a whole
row_of : {First Others : Type 0} → ((Number ≡ Number) × First × Others) ⊎ ((p : Endpoint) × ((Vertex p ≡ Number) × First × Others)) → First × Others
row_of has = elim has [ inl row ↦ (row.1, row.2) | inr at ↦ (at.1.1, at.1.2) ]

-- The types that the scope's meanings give are those of the values.
mutual
  pub expression_fine : (scope : ScopeTree) (at : ℕ) (e : ExpressionTree) (type : ExpressionType) → ExpressionHas (meanings_of scope.visible) scope.inside e type → Fine (value_of scope at e) type
  expression_fine scope at (tree.LastConjunction c) type has = conjunction_fine scope at c type has
  expression_fine scope at (tree.ConjunctionThen c others) type has =
      let x = conjunction_value scope at c in
      let first = conjunction_fine scope at c Truth has.1 in
      let rest = disjuncts scope at (first_condition x.value) others in
      let more = disjuncts_fine scope at (first_condition x.value) others (first_condition_is x.value first.is) has.2 in
      let all = grouped_conditions_fine at rest.value more.1 in
      fine_as (value_of scope at (tree.ConjunctionThen c others)) type Truth has.0
      (record { none = both_none x.faults _ first.none (both_none rest.faults _ more.0 all.none); is = all.is })

  disjuncts_fine : (scope : ScopeTree) (at : ℕ) (left : ConditionsTree) (e : ExpressionTree) → AreConditions left → ExpressionHas (meanings_of scope.visible) scope.inside e Truth
      → ((disjuncts scope at left e).faults ≡ []) × AreConditions (disjuncts scope at left e).value
  disjuncts_fine scope at left (tree.LastConjunction c) are has =
      let x = conjunction_value scope at c in
      let first = conjunction_fine scope at c Truth has in
      (both_none x.faults [] first.none refl, beside_condition_is connective.Or left (first_condition x.value) are (first_condition_is x.value first.is))
  disjuncts_fine scope at left (tree.ConjunctionThen c others) are has =
      let x = conjunction_value scope at c in
      let first = conjunction_fine scope at c Truth has.1 in
      let both = beside_condition_is connective.Or left (first_condition x.value) are (first_condition_is x.value first.is) in
      let more = disjuncts_fine scope at (beside_condition connective.Or left (first_condition x.value)) others both has.2 in
      (both_none x.faults _ first.none more.0, more.1)

  conjunction_fine : (scope : ScopeTree) (at : ℕ) (c : ConjunctionTree) (type : ExpressionType) → ConjunctionHas (meanings_of scope.visible) scope.inside c type
      → Fine (conjunction_value scope at c) type
  conjunction_fine scope at (tree.LastComparison c) type has = comparison_fine scope at c type has
  conjunction_fine scope at (tree.ComparisonThen c others) type has =
      let x = comparison_value scope at c in
      let first = comparison_fine scope at c Truth has.1 in
      let rest = conjuncts scope at (first_condition x.value) others in
      let more = conjuncts_fine scope at (first_condition x.value) others (first_condition_is x.value first.is) has.2 in
      let all = grouped_conditions_fine at rest.value more.1 in
      fine_as (conjunction_value scope at (tree.ComparisonThen c others)) type Truth has.0
      (record { none = both_none x.faults _ first.none (both_none rest.faults _ more.0 all.none); is = all.is })

  conjuncts_fine : (scope : ScopeTree) (at : ℕ) (left : ConditionsTree) (c : ConjunctionTree) → AreConditions left → ConjunctionHas (meanings_of scope.visible) scope.inside c Truth
      → ((conjuncts scope at left c).faults ≡ []) × AreConditions (conjuncts scope at left c).value
  conjuncts_fine scope at left (tree.LastComparison c) are has =
      let x = comparison_value scope at c in
      let first = comparison_fine scope at c Truth has in
      (both_none x.faults [] first.none refl, beside_condition_is connective.And left (first_condition x.value) are (first_condition_is x.value first.is))
  conjuncts_fine scope at left (tree.ComparisonThen c others) are has =
      let x = comparison_value scope at c in
      let first = comparison_fine scope at c Truth has.1 in
      let both = beside_condition_is connective.And left (first_condition x.value) are (first_condition_is x.value first.is) in
      let more = conjuncts_fine scope at (beside_condition connective.And left (first_condition x.value)) others both has.2 in
      (both_none x.faults _ first.none more.0, more.1)

  comparison_fine : (scope : ScopeTree) (at : ℕ) (c : ComparisonTree) (type : ExpressionType) → ComparisonHas (meanings_of scope.visible) scope.inside c type
      → Fine (comparison_value scope at c) type
  comparison_fine scope at (tree.OneSum s) type has = sum_fine scope at s type has
  comparison_fine scope at (tree.TwoSums left relation right) type has =
      let a = sum_value scope at left in
      let b = sum_value scope at right in
      let fine = λ (s : SumTree) (fine : (type : ExpressionType) → SumHas (meanings_of scope.visible) scope.inside s type → Fine (sum_value scope at s) type)
      (number : ReadsAsNumber (SumHas (meanings_of scope.visible) scope.inside s)). numeric_fine (sum_value scope at s) (SumHas (meanings_of scope.visible) scope.inside s) fine number in
      fine_as (comparison_value scope at (tree.TwoSums left relation right)) type Truth has.0
      (elim has.1 [
        | inl numbers ↦
            let first = fine left (sum_fine scope at left) numbers.0 in
            let second = fine right (sum_fine scope at right) numbers.1 in
            let all = numbers_related at relation a.value b.value first.is second.is in
            record { none = both_none a.faults _ first.none (both_none b.faults _ second.none all.none); is = all.is }
        | inr truths ↦
            let first = sum_fine scope at left Truth truths.1 in
            let second = sum_fine scope at right Truth truths.2 in
            let all = truths_related at relation a.value b.value truths.0 first.is second.is in
            record { none = both_none a.faults _ first.none (both_none b.faults _ second.none all.none); is = all.is }
      ])

  sum_fine : (scope : ScopeTree) (at : ℕ) (s : SumTree) (type : ExpressionType) → SumHas (meanings_of scope.visible) scope.inside s type → Fine (sum_value scope at s) type
  sum_fine scope at (tree.LastTerm t) type has = term_fine scope at t type has
  sum_fine scope at (tree.TermThen t o others) type has =
      let x = term_value scope at t in
      let first = numeric_fine x (TermHas (meanings_of scope.visible) scope.inside t) (term_fine scope at t) has.1 in
      let rest = summands scope at (first_integer x.value) o others in
      let more = summands_fine scope at (first_integer x.value) o others (first_integer_is x.value first.is) has.2 in
      let all = grouped_integers_fine at rest.value more.1 in
      fine_as (sum_value scope at (tree.TermThen t o others)) type Number has.0
      (record { none = both_none x.faults _ first.none (both_none rest.faults _ more.0 all.none); is = all.is })

  summands_fine : (scope : ScopeTree) (at : ℕ) (left : IntegersTree) (o : Addition) (s : SumTree) → AreIntegers left → ReadsAsNumber (SumHas (meanings_of scope.visible) scope.inside s)
      → ((summands scope at left o s).faults ≡ []) × AreIntegers (summands scope at left o s).value
  summands_fine scope at left o (tree.LastTerm t) are has =
      let x = term_value scope at t in
      let first = numeric_fine x (TermHas (meanings_of scope.visible) scope.inside t) (term_fine scope at t) has in
      (both_none x.faults [] first.none refl, beside_integer_is (addition_operator o) left (first_integer x.value) are (first_integer_is x.value first.is))
  summands_fine scope at left o (tree.TermThen t next others) are has =
      let x = term_value scope at t in
      let parts = row_of has in
      let first = numeric_fine x (TermHas (meanings_of scope.visible) scope.inside t) (term_fine scope at t) parts.0 in
      let both = beside_integer_is (addition_operator o) left (first_integer x.value) are (first_integer_is x.value first.is) in
      let more = summands_fine scope at (beside_integer (addition_operator o) left (first_integer x.value)) next others both parts.1 in
      (both_none x.faults _ first.none more.0, more.1)

  term_fine : (scope : ScopeTree) (at : ℕ) (t : TermTree) (type : ExpressionType) → TermHas (meanings_of scope.visible) scope.inside t type → Fine (term_value scope at t) type
  term_fine scope at (tree.LastUnary u) type has = unary_fine scope at u type has
  term_fine scope at (tree.UnaryThen u o others) type has =
      let x = unary_value scope at u in
      let first = numeric_fine x (UnaryHas (meanings_of scope.visible) scope.inside u) (unary_fine scope at u) has.1 in
      let rest = factors scope at (first_integer x.value) o others in
      let more = factors_fine scope at (first_integer x.value) o others (first_integer_is x.value first.is) has.2 in
      let all = grouped_integers_fine at rest.value more.1 in
      fine_as (term_value scope at (tree.UnaryThen u o others)) type Number has.0
      (record { none = both_none x.faults _ first.none (both_none rest.faults _ more.0 all.none); is = all.is })

  factors_fine : (scope : ScopeTree) (at : ℕ) (left : IntegersTree) (o : Multiplication) (t : TermTree) → AreIntegers left → ReadsAsNumber (TermHas (meanings_of scope.visible) scope.inside t)
      → ((factors scope at left o t).faults ≡ []) × AreIntegers (factors scope at left o t).value
  factors_fine scope at left o (tree.LastUnary u) are has =
      let x = unary_value scope at u in
      let first = numeric_fine x (UnaryHas (meanings_of scope.visible) scope.inside u) (unary_fine scope at u) has in
      (both_none x.faults [] first.none refl, beside_integer_is (multiplied o) left (first_integer x.value) are (first_integer_is x.value first.is))
  factors_fine scope at left o (tree.UnaryThen u next others) are has =
      let x = unary_value scope at u in
      let parts = row_of has in
      let first = numeric_fine x (UnaryHas (meanings_of scope.visible) scope.inside u) (unary_fine scope at u) parts.0 in
      let both = beside_integer_is (multiplied o) left (first_integer x.value) are (first_integer_is x.value first.is) in
      let more = factors_fine scope at (beside_integer (multiplied o) left (first_integer x.value)) next others both parts.1 in
      (both_none x.faults _ first.none more.0, more.1)

  unary_fine : (scope : ScopeTree) (at : ℕ) (u : UnaryTree) (type : ExpressionType) → UnaryHas (meanings_of scope.visible) scope.inside u type → Fine (unary_value scope at u) type
  unary_fine scope at (tree.Bare e) type has = primary_fine scope at e type has
  unary_fine scope at (tree.Signed prefix.Minus u) type has =
      let x = unary_value scope at u in
      let first = numeric_fine x (UnaryHas (meanings_of scope.visible) scope.inside u) (unary_fine scope at u) has.1 in
      let all = negative_fine at x.value first.is in
      fine_as (unary_value scope at (tree.Signed prefix.Minus u)) type Number has.0 (record { none = both_none x.faults _ first.none all.none; is = all.is })
  unary_fine scope at (tree.Signed prefix.Not u) type has =
      let x = unary_value scope at u in
      let first = unary_fine scope at u Truth has.1 in
      let all = negated_fine at x.value first.is in
      fine_as (unary_value scope at (tree.Signed prefix.Not u)) type Truth has.0 (record { none = both_none x.faults _ first.none all.none; is = all.is })

  primary_fine : (scope : ScopeTree) (at : ℕ) (e : PrimaryTree) (type : ExpressionType) → PrimaryHas (meanings_of scope.visible) scope.inside e type → Fine (primary_value scope at e) type
  primary_fine scope at (tree.Literal n) type has = fine_as (primary_value scope at (tree.Literal n)) type Number has (record { none = refl; is = tt })
  primary_fine scope at (tree.Truth b) type has = fine_as (primary_value scope at (tree.Truth b)) type Truth has (record { none = refl; is = tt })
  primary_fine scope at (tree.Variable name) type has = name_fine scope at name type has
  primary_fine scope at (tree.Entry vector subscript) type has =
      let index = vector_index scope at vector in
      let there = vector_fine scope at vector has.1.vector has.1.means in
      let fits = index_fine scope.inside scope at has.1.vector subscript (expression_fine scope at subscript) has.2 in
      let all = entry_fine scope at has.1.vector index.value (index_value scope at subscript) there.1 fits in
      fine_as (primary_value scope at (tree.Entry vector subscript)) type Number has.0
      (record { none = entry_none scope.inside at (used_name scope vector) (index_value scope at subscript) there.0 all.0; is = all.1 })
  primary_fine scope at (tree.Size set) type has = fine_as (primary_value scope at (tree.Size set)) type Number has.0 (size_fine scope at set has.1)
  primary_fine scope at (tree.Parentheses inside) type has = expression_fine scope at inside type has
