-- Values without a faulty part: what operators, names and entries make of such values.
use Rattle.std.proofs.Common.{◌≡◌, ℕ, Bool, true, false, if◌then◌else◌, List, [], Option, Some, None}
use Rattle.syntax.specs.declared.operators.Prefix.{Prefix}
use Rattle.syntax.specs.declared.operators.Prefix.TheVariants as prefix
use Rattle.syntax.specs.declared.operators.Relation.{Relation}
use Rattle.syntax.specs.declared.operators.Relation.TheVariants as relation
use Rattle.syntax.specs.Terminals.{Identifier}
use Rattle.typed_tree.specs.declared.expression.ComparisonOperator.{ComparisonOperator}
use Rattle.typed_tree.specs.declared.expression.ComparisonOperator.TheVariants as comparison
use Rattle.typed_tree.specs.declared.expression.Connective.{Connective}
use Rattle.typed_tree.specs.declared.expression.Connective.TheVariants as connective
use Rattle.typed_tree.specs.declared.expression.Operator.{Operator}
use Rattle.typed_tree.specs.IntExpressionTree.{IntExpressionTree, Entry}
use Rattle.expression_types.specs.declared.fault.TypeRule.{TypeRule}
use Rattle.expression_types.specs.declared.fault.TypeRule.TheVariants as rule
use Rattle.expression_types.specs.declared.scope.Entity.{Entity}
use Rattle.expression_types.specs.declared.scope.Entity.TheVariants as entity
use Rattle.expression_types.specs.declared.scope.Inside.{Inside}
use Rattle.expression_types.specs.declared.scope.Inside.TheVariants as inside
use Rattle.expression_types.specs.Expression.{as_size, as_vector, entry_of, used_name, vector_index}
use Rattle.expression_types.specs.Faults.{fault_at, sure}
use Rattle.expression_types.specs.Operators.{IntegersTree, Integers, MixedIntegers, ErrorIntegers, ConditionsTree, Conditions, MixedConditions, ErrorConditions, beside_condition, beside_integer}
use Rattle.expression_types.specs.Operators.{compared, condition_index, entry_value, equated, first_condition, first_integer, function_entry, given_or_fault, grouped_conditions, grouped_integers}
use Rattle.expression_types.specs.Operators.{main_entry, related_value, signed_value}
use Rattle.expression_types.specs.ScopeTree.{ScopeTree}
use Rattle.expression_types.specs.ValueTree.{ValueTree, Integer, Condition, Vertex, Set, ErrorValue, named_value, reads_entry, condition_reads_entry}
use Rattle.type_laws.proofs.Faultless.{no_left, no_right, not_empty}
use Rattle.type_laws.proofs.KnownScopes.{EntityIsKnown, IsKnown, Vertices, used_known}

abbrev pub IsClear : ValueTree → Type 0
IsClear (Integer e) = Unit {0}
IsClear (Condition c) = Unit {0}
IsClear (Vertex p) = Unit {0}
IsClear (Set slot) = Unit {0}
IsClear ErrorValue = ⊥

abbrev MaybeClear : Option ValueTree → Type 0
MaybeClear None = Unit {0}
MaybeClear (Some v) = IsClear v

abbrev pub IntegersAreClear : IntegersTree → Type 0
IntegersAreClear (Integers e) = Unit {0}
IntegersAreClear MixedIntegers = Unit {0}
IntegersAreClear ErrorIntegers = ⊥

abbrev pub ConditionsAreClear : ConditionsTree → Type 0
ConditionsAreClear (Conditions c) = Unit {0}
ConditionsAreClear MixedConditions = Unit {0}
ConditionsAreClear ErrorConditions = ⊥

-- operands
pub first_integer_clear : (v : ValueTree) → IsClear v → IntegersAreClear (first_integer v)
first_integer_clear (Integer e) clear = tt
first_integer_clear (Condition c) clear = tt
first_integer_clear (Vertex p) clear = tt
first_integer_clear (Set slot) clear = tt
first_integer_clear ErrorValue clear = clear

pub first_condition_clear : (v : ValueTree) → IsClear v → ConditionsAreClear (first_condition v)
first_condition_clear (Integer e) clear = tt
first_condition_clear (Condition c) clear = tt
first_condition_clear (Vertex p) clear = tt
first_condition_clear (Set slot) clear = tt
first_condition_clear ErrorValue clear = clear

pub beside_integer_clear : (o : Operator) (a b : IntegersTree) → IntegersAreClear a → IntegersAreClear b → IntegersAreClear (beside_integer o a b)
beside_integer_clear o (Integers a) (Integers b) first second = tt
beside_integer_clear o (Integers a) MixedIntegers first second = tt
beside_integer_clear o (Integers a) ErrorIntegers first second = second
beside_integer_clear o MixedIntegers (Integers b) first second = tt
beside_integer_clear o MixedIntegers MixedIntegers first second = tt
beside_integer_clear o MixedIntegers ErrorIntegers first second = second
beside_integer_clear o ErrorIntegers b first second = first

pub beside_condition_clear : (o : Connective) (a b : ConditionsTree) → ConditionsAreClear a → ConditionsAreClear b → ConditionsAreClear (beside_condition o a b)
beside_condition_clear o (Conditions a) (Conditions b) first second = tt
beside_condition_clear o (Conditions a) MixedConditions first second = tt
beside_condition_clear o (Conditions a) ErrorConditions first second = second
beside_condition_clear o MixedConditions (Conditions b) first second = tt
beside_condition_clear o MixedConditions MixedConditions first second = tt
beside_condition_clear o MixedConditions ErrorConditions first second = second
beside_condition_clear o ErrorConditions b first second = first

pub grouped_integers_clear : (at : ℕ) (a : IntegersTree) → IntegersAreClear a → (grouped_integers at a).faults ≡ [] → IsClear (grouped_integers at a).value
grouped_integers_clear at (Integers e) clear none = tt
grouped_integers_clear at MixedIntegers clear none = absurd (not_empty _ _ none)
grouped_integers_clear at ErrorIntegers clear none = clear

pub grouped_conditions_clear : (at : ℕ) (a : ConditionsTree) → ConditionsAreClear a → (grouped_conditions at a).faults ≡ [] → IsClear (grouped_conditions at a).value
grouped_conditions_clear at (Conditions c) clear none = tt
grouped_conditions_clear at MixedConditions clear none = absurd (not_empty _ _ none)
grouped_conditions_clear at ErrorConditions clear none = clear

-- relations and signs
given_clear : (at : ℕ) (rule : TypeRule) (o : Option ValueTree) → MaybeClear o → (given_or_fault at rule o).faults ≡ [] → IsClear (given_or_fault at rule o).value
given_clear at rule None clear none = absurd (not_empty _ _ none)
given_clear at rule (Some v) clear none = clear

compared_clear : (o : ComparisonOperator) (a b : IntegersTree) → IntegersAreClear a → IntegersAreClear b → MaybeClear (compared o a b)
compared_clear o (Integers a) (Integers b) first second = tt
compared_clear o (Integers a) MixedIntegers first second = tt
compared_clear o (Integers a) ErrorIntegers first second = second
compared_clear o MixedIntegers (Integers b) first second = tt
compared_clear o MixedIntegers MixedIntegers first second = tt
compared_clear o MixedIntegers ErrorIntegers first second = second
compared_clear o ErrorIntegers b first second = first

equated_clear : (o : Connective) (a b : ConditionsTree) → ConditionsAreClear a → ConditionsAreClear b → MaybeClear (equated o a b)
equated_clear o (Conditions a) (Conditions b) first second = tt
equated_clear o (Conditions a) MixedConditions first second = tt
equated_clear o (Conditions a) ErrorConditions first second = second
equated_clear o MixedConditions (Conditions b) first second = tt
equated_clear o MixedConditions MixedConditions first second = tt
equated_clear o MixedConditions ErrorConditions first second = second
equated_clear o ErrorConditions b first second = first

values_compared_clear : (o : ComparisonOperator) (a b : ValueTree) → IsClear a → IsClear b → MaybeClear (compared o (first_integer a) (first_integer b))
values_compared_clear o a b first second = compared_clear o (first_integer a) (first_integer b) (first_integer_clear a first) (first_integer_clear b second)

values_related_clear : (r : Relation) (a b : ValueTree) → IsClear a → IsClear b → MaybeClear (related_value r a b)
values_related_clear relation.Equal (Integer e) b first second = values_compared_clear comparison.Equal (Integer e) b first second
values_related_clear relation.Equal (Condition c) b first second = equated_clear connective.Equal (Conditions c) (first_condition b) tt (first_condition_clear b second)
values_related_clear relation.Equal (Vertex p) b first second = values_compared_clear comparison.Equal (Vertex p) b first second
values_related_clear relation.Equal (Set slot) b first second = values_compared_clear comparison.Equal (Set slot) b first second
values_related_clear relation.Equal ErrorValue b first second = first
values_related_clear relation.NotEqual (Integer e) b first second = values_compared_clear comparison.NotEqual (Integer e) b first second
values_related_clear relation.NotEqual (Condition c) b first second =
    equated_clear connective.NotEqual (Conditions c) (first_condition b) tt (first_condition_clear b second)
values_related_clear relation.NotEqual (Vertex p) b first second = values_compared_clear comparison.NotEqual (Vertex p) b first second
values_related_clear relation.NotEqual (Set slot) b first second = values_compared_clear comparison.NotEqual (Set slot) b first second
values_related_clear relation.NotEqual ErrorValue b first second = first
values_related_clear relation.Less a b first second = values_compared_clear comparison.Less a b first second
values_related_clear relation.LessOrEqual a b first second = values_compared_clear comparison.LessOrEqual a b first second
values_related_clear relation.Greater a b first second = values_compared_clear comparison.Greater a b first second
values_related_clear relation.GreaterOrEqual a b first second = values_compared_clear comparison.GreaterOrEqual a b first second

pub related_clear : (at : ℕ) (r : Relation) (a b : ValueTree) → IsClear a → IsClear b → (given_or_fault at rule.WrongType (related_value r a b)).faults ≡ []
    → IsClear (given_or_fault at rule.WrongType (related_value r a b)).value
related_clear at r a b first second none = given_clear at rule.WrongType (related_value r a b) (values_related_clear r a b first second) none

value_signed_clear : (sign : Prefix) (v : ValueTree) → IsClear v → MaybeClear (signed_value sign v)
value_signed_clear prefix.Minus (Integer e) clear = tt
value_signed_clear prefix.Minus (Condition c) clear = tt
value_signed_clear prefix.Minus (Vertex p) clear = tt
value_signed_clear prefix.Minus (Set slot) clear = tt
value_signed_clear prefix.Minus ErrorValue clear = clear
value_signed_clear prefix.Not (Integer e) clear = tt
value_signed_clear prefix.Not (Condition c) clear = tt
value_signed_clear prefix.Not (Vertex p) clear = tt
value_signed_clear prefix.Not (Set slot) clear = tt
value_signed_clear prefix.Not ErrorValue clear = clear

pub signed_clear : (at : ℕ) (sign : Prefix) (v : ValueTree) → IsClear v → (given_or_fault at rule.WrongType (signed_value sign v)).faults ≡ []
    → IsClear (given_or_fault at rule.WrongType (signed_value sign v)).value
signed_clear at sign v clear none = given_clear at rule.WrongType (signed_value sign v) (value_signed_clear sign v clear) none

-- names
entity_clear : (At : Vertices) (name : List ℕ) (e : Entity) → EntityIsKnown At name e → MaybeClear (named_value e)
entity_clear At name entity.Error known = known
entity_clear At name (entity.ConstantSet slot) known = tt
entity_clear At name (entity.IntConstant own n) known = tt
entity_clear At name (entity.BoolConstant own b) known = tt
entity_clear At name (entity.IntVariable slot) known = tt
entity_clear At name (entity.BoolVariable slot) known = tt
entity_clear At name (entity.SetVariable slot) known = tt
entity_clear At name (entity.LoopVariable slot) known = tt
entity_clear At name (entity.Parameter p) known = tt
entity_clear At name entity.Weight known = tt
entity_clear At name _ known = tt

pub named_clear : (At : Vertices) (at : ℕ) (name : List ℕ) (e : Entity) → EntityIsKnown At name e → (given_or_fault at rule.WrongType (named_value e)).faults ≡ []
    → IsClear (given_or_fault at rule.WrongType (named_value e)).value
named_clear At at name e known none = given_clear at rule.WrongType (named_value e) (entity_clear At name e known) none

pub size_clear : (At : Vertices) (at : ℕ) (name : List ℕ) (e : Entity) → EntityIsKnown At name e → (as_size at e).faults ≡ [] → IsClear (as_size at e).value
size_clear At at name entity.Error known none = known
size_clear At at name (entity.ConstantSet slot) known none = tt
size_clear At at name (entity.SetVariable slot) known none = tt
size_clear At at name _ known none = absurd (not_empty _ _ none)

-- a vector that is used is there
abbrev pub IsThere : Option ℕ → Type 0
IsThere None = ⊥
IsThere (Some index) = Unit {0}

vector_is_there : (At : Vertices) (at : ℕ) (name : List ℕ) (e : Entity) → EntityIsKnown At name e → (as_vector at e).faults ≡ [] → IsThere (as_vector at e).value
vector_is_there At at name entity.Error known none = known
vector_is_there At at name (entity.Vector index) known none = tt
vector_is_there At at name _ known none = absurd (not_empty _ _ none)

pub vector_there : (At : Vertices) (i : Inside) (scope : ScopeTree) (at : ℕ) (name : Identifier) → IsKnown At i scope → (vector_index scope at name).faults ≡ []
    → IsThere (vector_index scope at name).value
vector_there At i scope at name known none =
    let e = used_name scope name in
    vector_is_there At at name.bytes e.value (used_known At i scope name known (no_left e.faults _ none)) (no_right e.faults _ none)

-- the faults of an entry, if its index has no faulty part
pub entry_parts : (i : Inside) (at : ℕ) (e : Entity) (v : ValueTree) → IsClear v → (entry_of i at e v).faults ≡ []
    → ((as_vector at e).faults ≡ []) × ((entry_value i at (as_vector at e).value v).faults ≡ [])
entry_parts i at e (Integer x) clear none = (no_left (as_vector at e).faults _ none, no_right (as_vector at e).faults _ none)
entry_parts i at e (Condition c) clear none = (no_left (as_vector at e).faults _ none, no_right (as_vector at e).faults _ none)
entry_parts i at e (Vertex p) clear none = (no_left (as_vector at e).faults _ none, no_right (as_vector at e).faults _ none)
entry_parts i at e (Set slot) clear none = (no_left (as_vector at e).faults _ none, no_right (as_vector at e).faults _ none)
entry_parts i at e ErrorValue clear none = absurd clear

-- entries
index_clear : (b : Bool) (at vector : ℕ) (e : IntExpressionTree) → (if b then fault_at at rule.WrongIndex ErrorValue else sure (Integer (Entry vector e))).faults ≡ []
    → IsClear (if b then fault_at at rule.WrongIndex ErrorValue else sure (Integer (Entry vector e))).value
index_clear true at vector e none = absurd (not_empty _ _ none)
index_clear false at vector e none = tt

pub condition_index_is_error : (at : ℕ) (reads : Bool) → (condition_index at reads).faults ≡ [] → ⊥
condition_index_is_error at true none = not_empty _ _ none
condition_index_is_error at false none = not_empty _ _ none

main_entry_clear : (at vector : ℕ) (v : ValueTree) → IsClear v → (main_entry at vector v).faults ≡ [] → IsClear (main_entry at vector v).value
main_entry_clear at vector (Integer e) clear none = index_clear (reads_entry e) at vector e none
main_entry_clear at vector (Condition c) clear none = absurd (condition_index_is_error at (condition_reads_entry c) none)
main_entry_clear at vector (Vertex p) clear none = tt
main_entry_clear at vector (Set slot) clear none = absurd (not_empty _ _ none)
main_entry_clear at vector ErrorValue clear none = clear

function_entry_clear : (at vector : ℕ) (v : ValueTree) → IsClear v → (function_entry at vector v).faults ≡ [] → IsClear (function_entry at vector v).value
function_entry_clear at vector (Integer e) clear none = absurd (not_empty _ _ none)
function_entry_clear at vector (Condition c) clear none = absurd (not_empty _ _ none)
function_entry_clear at vector (Vertex p) clear none = tt
function_entry_clear at vector (Set slot) clear none = absurd (not_empty _ _ none)
function_entry_clear at vector ErrorValue clear none = clear

pub entry_clear : (i : Inside) (at : ℕ) (index : Option ℕ) (v : ValueTree) → IsThere index → IsClear v → (entry_value i at index v).faults ≡ []
    → IsClear (entry_value i at index v).value
entry_clear i at None v there clear none = absurd there
entry_clear inside.Main at (Some vector) v there clear none = main_entry_clear at vector v clear none
entry_clear inside.EdgeFunction at (Some vector) v there clear none = function_entry_clear at vector v clear none
entry_clear inside.VertexFunction at (Some vector) v there clear none = function_entry_clear at vector v clear none
entry_clear inside.Filter at (Some vector) v there clear none = function_entry_clear at vector v clear none
