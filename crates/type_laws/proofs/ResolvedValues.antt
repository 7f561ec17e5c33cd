-- What expressions and initial values speak of is there.
use Rattle.std.proofs.Common.{◌≡◌, refl, ℕ, zero, suc, ℤ, pos, negsuc, Bool, true, false, ◌||◌, if◌then◌else◌, List, [], ◌∷◌, Option, Some, None}
use Rattle.std.specs.Str.{bytes_eq}
use Rattle.std.specs.List.{AllByRecursion}
use Rattle.syntax.specs.declared.operators.Addition.{Addition}
use Rattle.syntax.specs.declared.operators.Multiplication.{Multiplication}
use Rattle.syntax.specs.declared.operators.Prefix.{Prefix}
use Rattle.syntax.specs.declared.operators.Prefix.TheVariants as prefix
use Rattle.syntax.specs.declared.operators.Relation.{Relation}
use Rattle.syntax.specs.declared.operators.Relation.TheVariants as relation
use Rattle.syntax.specs.Terminals.{Identifier}
use Rattle.syntax.specs.SourceTrees.{ExpressionTree, ConjunctionTree, ComparisonTree, SumTree, TermTree, UnaryTree, PrimaryTree, LastConjunction, ConjunctionThen, LastComparison, ComparisonThen}
use Rattle.syntax.specs.SourceTrees.{OneSum, TwoSums, LastTerm, TermThen, LastUnary, UnaryThen, Bare, Signed, Literal, Truth, Variable, Entry, Size, Parentheses, InitialTree}
use Rattle.syntax.specs.SourceTrees as source
use Rattle.typed_tree.specs.declared.expression.Endpoint.TheVariants as endpoint
use Rattle.typed_tree.specs.declared.expression.ComparisonOperator.{ComparisonOperator}
use Rattle.typed_tree.specs.declared.expression.ComparisonOperator.TheVariants as comparison
use Rattle.typed_tree.specs.declared.expression.Connective.{Connective}
use Rattle.typed_tree.specs.declared.expression.Connective.TheVariants as connective
use Rattle.typed_tree.specs.declared.expression.Operator.{Operator}
use Rattle.typed_tree.specs.declared.expression.VarRef.{VarRef}
use Rattle.typed_tree.specs.declared.statement.ApplyEnds.{ApplyEnds}
use Rattle.typed_tree.specs.declared.statement.SetValue.TheVariants as set
use Rattle.typed_tree.specs.IntExpressionTree.{IntExpressionTree}
use Rattle.typed_tree.specs.ProgramTree.{ProgramTree}
use Rattle.typed_tree.specs.Resolved.{VisibleTree, ConditionIsResolved, EndIsResolved, EndsAreResolved, IntegerIsResolved, IsCondition, IsEdgeFunction, IsFilter, IsIntVariable, IsNameIndex}
use Rattle.typed_tree.specs.Resolved.{IsSetVariable, IsVectorIndex, IsVertex, IsVertexFunction, SetIsResolved}
use Rattle.expression_types.specs.declared.fault.TypeRule.{TypeRule}
use Rattle.expression_types.specs.declared.fault.TypeRule.TheVariants as rule
use Rattle.expression_types.specs.declared.scope.Entity.{Entity}
use Rattle.expression_types.specs.declared.scope.Entity.TheVariants as entity
use Rattle.expression_types.specs.declared.scope.Inside.{Inside}
use Rattle.expression_types.specs.declared.scope.Inside.TheVariants as inside
use Rattle.expression_types.specs.Expression.{as_size, as_vector, comparison_value, conjunction_value, conjuncts, disjuncts, factors, index_lacks_value, index_value, no_vertex, primary_value}
use Rattle.expression_types.specs.Expression.{sum_value, summands, term_value, unary_value, used_name, used_as, value_of, vector_index}
use Rattle.expression_types.specs.ScopeTree.{found, ScopeTree}
use Rattle.expression_types.specs.Faults.{WithFaults, sure}
use Rattle.expression_types.specs.Operators.{IntegersTree, Integers, MixedIntegers, ErrorIntegers, ConditionsTree, Conditions, MixedConditions, ErrorConditions, addition_operator, condition_index}
use Rattle.expression_types.specs.Operators.{beside_condition, beside_integer, compared, entry_value, equated, first_condition, first_integer, given_or_fault, grouped_conditions, grouped_integers}
use Rattle.expression_types.specs.Operators.{multiplied, related_value, signed_value}
use Rattle.expression_types.specs.ValueTree.{ValueTree, Integer, Condition, Vertex, Set, ErrorValue, condition_reads_entry, entity_set, named_value, reads_entry}
use Rattle.initializer_types.specs.Checker.{CheckerTree, condition_wanted, as_index, integer_wanted, as_members, condition_in, integer_in, no_index}
use Rattle.initializer_types.specs.Initial.{ApplyEndTree, InitializerTree, Typed, Members, Loaded, Degrees, ErrorInitializer, initializer_condition, edge_function, apply_end_of, ends_given, filter_function}
use Rattle.initializer_types.specs.Initial.{filter_named, filtered_set, filtered_by, initializer_of, given_filter, initializer_integer, is_edges, names_error, is_error_end, is_wrong, initializer_members}
use Rattle.initializer_types.specs.Initial.{initial_modified, modified_by, new_set, loaded, of_edges, vector_of, vertex_function, writes_vector, lacks_weights}

-- what a name stands for is there
abbrev pub EntityIsResolved : ProgramTree → VisibleTree → Entity → Type 0
EntityIsResolved p v (entity.Edges weights) = Unit {0}
EntityIsResolved p v (entity.Vector index) = IsVectorIndex p index
EntityIsResolved p v (entity.ConstantSet slot) = IsSetVariable p v slot
EntityIsResolved p v (entity.IntConstant name n) = IsNameIndex p name
EntityIsResolved p v (entity.BoolConstant name b) = IsNameIndex p name
EntityIsResolved p v (entity.IntVariable slot) = IsIntVariable p v slot
EntityIsResolved p v (entity.BoolVariable slot) = IsCondition p v slot
EntityIsResolved p v (entity.SetVariable slot) = IsSetVariable p v slot
EntityIsResolved p v (entity.LoopVariable slot) = IsIntVariable p v slot
EntityIsResolved p v (entity.Parameter at) = IsVertex v at
EntityIsResolved p v entity.Weight = IsVertex v endpoint.Destination
EntityIsResolved p v (entity.EdgeFunction index weighted) = IsEdgeFunction p index
EntityIsResolved p v (entity.VertexFunction index) = IsVertexFunction p index
EntityIsResolved p v (entity.Filter index) = IsFilter p index
EntityIsResolved p v entity.Main = Unit {0}
EntityIsResolved p v entity.Error = Unit {0}

-- all visible names do, and main reads entries at an index
abbrev pub Known : ProgramTree → VisibleTree → ScopeTree → Type 0
Known p v scope = (scope.inside ≡ inside.Main → v.indexes ≡ true) × AllByRecursion (λ x. EntityIsResolved p v x.1) scope.visible

-- what is there, where something is
abbrev pub MaybeSet : ProgramTree → VisibleTree → Option VarRef → Type 0
MaybeSet p v None = Unit {0}
MaybeSet p v (Some slot) = IsSetVariable p v slot

abbrev pub MaybeVariable : (ℕ → Type 0) → Option ℕ → Type 0
MaybeVariable Is None = Unit {0}
MaybeVariable Is (Some index) = Is index

abbrev pub ValueIsResolved : ProgramTree → VisibleTree → ValueTree → Type 0
ValueIsResolved p v (Integer e) = IntegerIsResolved p v e
ValueIsResolved p v (Condition c) = ConditionIsResolved p v c
ValueIsResolved p v (Vertex at) = IsVertex v at
ValueIsResolved p v (Set slot) = IsSetVariable p v slot
ValueIsResolved p v ErrorValue = Unit {0}

abbrev MaybeValue : ProgramTree → VisibleTree → Option ValueTree → Type 0
MaybeValue p v None = Unit {0}
MaybeValue p v (Some x) = ValueIsResolved p v x

abbrev IntegersAreResolved : ProgramTree → VisibleTree → IntegersTree → Type 0
IntegersAreResolved p v (Integers e) = IntegerIsResolved p v e
IntegersAreResolved p v MixedIntegers = Unit {0}
IntegersAreResolved p v ErrorIntegers = Unit {0}

abbrev ConditionsAreResolved : ProgramTree → VisibleTree → ConditionsTree → Type 0
ConditionsAreResolved p v (Conditions c) = ConditionIsResolved p v c
ConditionsAreResolved p v MixedConditions = Unit {0}
ConditionsAreResolved p v ErrorConditions = Unit {0}

-- a used name is one of the visible names, or faulty
module _ (P : Entity → Type 0) (faulty : P entity.Error) (name : Identifier) where
  used_first : (b : Bool) (e : Entity) (o : Option Entity) → P e → P (used_as name o).value → P (used_as name (if b then Some e else o)).value
  used_first true e o first others = first
  used_first false e o first others = others

  pub used_among : (visible : List (List ℕ × Entity)) → AllByRecursion (λ x. P x.1) visible → P (used_as name (found name.bytes visible)).value
  used_among [] all = faulty
  used_among (x ∷ others) all = used_first (bytes_eq name.bytes x.0) x.1 (found name.bytes others) all.0 (used_among others all.1)

pub used_resolved : (p : ProgramTree) (v : VisibleTree) (scope : ScopeTree) (name : Identifier) → Known p v scope → EntityIsResolved p v (used_name scope name).value
used_resolved p v scope name known = used_among (EntityIsResolved p v) tt name scope.visible known.1

given_resolved : (p : ProgramTree) (v : VisibleTree) (at : ℕ) (rule : TypeRule) (o : Option ValueTree) → MaybeValue p v o → ValueIsResolved p v (given_or_fault at rule o).value
given_resolved p v at rule None is = tt
given_resolved p v at rule (Some x) is = is

named_resolved : (p : ProgramTree) (v : VisibleTree) (e : Entity) → EntityIsResolved p v e → MaybeValue p v (named_value e)
named_resolved p v (entity.ConstantSet slot) is = is
named_resolved p v (entity.IntConstant name n) is = is
named_resolved p v (entity.BoolConstant name b) is = is
named_resolved p v (entity.IntVariable slot) is = is
named_resolved p v (entity.BoolVariable slot) is = is
named_resolved p v (entity.SetVariable slot) is = is
named_resolved p v (entity.LoopVariable slot) is = is
named_resolved p v (entity.Parameter at) is = is
named_resolved p v entity.Weight is = is
named_resolved p v _ is = tt

as_vector_resolved : (p : ProgramTree) (v : VisibleTree) (at : ℕ) (e : Entity) → EntityIsResolved p v e → MaybeVariable (IsVectorIndex p) (as_vector at e).value
as_vector_resolved p v at (entity.Vector index) is = is
as_vector_resolved p v at _ is = tt

pub vector_resolved : (p : ProgramTree) (v : VisibleTree) (scope : ScopeTree) (at : ℕ) (name : Identifier) → Known p v scope
    → MaybeVariable (IsVectorIndex p) (vector_index scope at name).value
vector_resolved p v scope at name known = as_vector_resolved p v at (used_name scope name).value (used_resolved p v scope name known)

size_resolved : (p : ProgramTree) (v : VisibleTree) (at : ℕ) (e : Entity) → EntityIsResolved p v e → ValueIsResolved p v (as_size at e).value
size_resolved p v at (entity.ConstantSet slot) is = is
size_resolved p v at (entity.SetVariable slot) is = is
size_resolved p v at _ is = tt

pub named_set_resolved : (p : ProgramTree) (v : VisibleTree) (e : Entity) → EntityIsResolved p v e → MaybeSet p v (entity_set e)
named_set_resolved p v (entity.ConstantSet slot) is = is
named_set_resolved p v (entity.SetVariable slot) is = is
named_set_resolved p v _ is = tt

pub edge_function_resolved : (p : ProgramTree) (v : VisibleTree) (e : Entity) → EntityIsResolved p v e → MaybeVariable (IsEdgeFunction p) (edge_function e)
edge_function_resolved p v (entity.EdgeFunction index weighted) is = is
edge_function_resolved p v _ is = tt

pub vertex_function_resolved : (p : ProgramTree) (v : VisibleTree) (e : Entity) → EntityIsResolved p v e → MaybeVariable (IsVertexFunction p) (vertex_function e)
vertex_function_resolved p v (entity.VertexFunction index) is = is
vertex_function_resolved p v _ is = tt

filter_function_resolved : (p : ProgramTree) (v : VisibleTree) (e : Entity) → EntityIsResolved p v e → MaybeVariable (IsFilter p) (filter_function e)
filter_function_resolved p v (entity.Filter index) is = is
filter_function_resolved p v _ is = tt

vector_of_resolved : (p : ProgramTree) (v : VisibleTree) (e : Entity) → EntityIsResolved p v e → MaybeVariable (IsVectorIndex p) (vector_of e)
vector_of_resolved p v (entity.Vector index) is = is
vector_of_resolved p v _ is = tt

-- operators
first_integer_resolved : (p : ProgramTree) (v : VisibleTree) (x : ValueTree) → ValueIsResolved p v x → IntegersAreResolved p v (first_integer x)
first_integer_resolved p v (Integer e) is = is
first_integer_resolved p v (Condition c) is = tt
first_integer_resolved p v (Vertex at) is = is
first_integer_resolved p v (Set slot) is = tt
first_integer_resolved p v ErrorValue is = tt

first_condition_resolved : (p : ProgramTree) (v : VisibleTree) (x : ValueTree) → ValueIsResolved p v x → ConditionsAreResolved p v (first_condition x)
first_condition_resolved p v (Integer e) is = tt
first_condition_resolved p v (Condition c) is = is
first_condition_resolved p v (Vertex at) is = tt
first_condition_resolved p v (Set slot) is = tt
first_condition_resolved p v ErrorValue is = tt

beside_integer_resolved : (p : ProgramTree) (v : VisibleTree) (o : Operator) (a b : IntegersTree) → IntegersAreResolved p v a → IntegersAreResolved p v b
    → IntegersAreResolved p v (beside_integer o a b)
beside_integer_resolved p v o (Integers a) (Integers b) first second = (first, second)
beside_integer_resolved p v o (Integers a) MixedIntegers first second = tt
beside_integer_resolved p v o (Integers a) ErrorIntegers first second = tt
beside_integer_resolved p v o MixedIntegers (Integers b) first second = tt
beside_integer_resolved p v o MixedIntegers MixedIntegers first second = tt
beside_integer_resolved p v o MixedIntegers ErrorIntegers first second = tt
beside_integer_resolved p v o ErrorIntegers b first second = tt

beside_condition_resolved : (p : ProgramTree) (v : VisibleTree) (o : Connective) (a b : ConditionsTree) → ConditionsAreResolved p v a → ConditionsAreResolved p v b
    → ConditionsAreResolved p v (beside_condition o a b)
beside_condition_resolved p v o (Conditions a) (Conditions b) first second = (first, second)
beside_condition_resolved p v o (Conditions a) MixedConditions first second = tt
beside_condition_resolved p v o (Conditions a) ErrorConditions first second = tt
beside_condition_resolved p v o MixedConditions (Conditions b) first second = tt
beside_condition_resolved p v o MixedConditions MixedConditions first second = tt
beside_condition_resolved p v o MixedConditions ErrorConditions first second = tt
beside_condition_resolved p v o ErrorConditions b first second = tt

grouped_integers_resolved : (p : ProgramTree) (v : VisibleTree) (at : ℕ) (a : IntegersTree) → IntegersAreResolved p v a → ValueIsResolved p v (grouped_integers at a).value
grouped_integers_resolved p v at (Integers e) is = is
grouped_integers_resolved p v at MixedIntegers is = tt
grouped_integers_resolved p v at ErrorIntegers is = tt

grouped_conditions_resolved : (p : ProgramTree) (v : VisibleTree) (at : ℕ) (a : ConditionsTree) → ConditionsAreResolved p v a → ValueIsResolved p v (grouped_conditions at a).value
grouped_conditions_resolved p v at (Conditions c) is = is
grouped_conditions_resolved p v at MixedConditions is = tt
grouped_conditions_resolved p v at ErrorConditions is = tt

compared_resolved : (p : ProgramTree) (v : VisibleTree) (o : ComparisonOperator) (a b : IntegersTree) → IntegersAreResolved p v a → IntegersAreResolved p v b → MaybeValue p v (compared o a b)
compared_resolved p v o (Integers a) (Integers b) first second = (first, second)
compared_resolved p v o (Integers a) MixedIntegers first second = tt
compared_resolved p v o (Integers a) ErrorIntegers first second = tt
compared_resolved p v o MixedIntegers (Integers b) first second = tt
compared_resolved p v o MixedIntegers MixedIntegers first second = tt
compared_resolved p v o MixedIntegers ErrorIntegers first second = tt
compared_resolved p v o ErrorIntegers b first second = tt

equated_resolved : (p : ProgramTree) (v : VisibleTree) (o : Connective) (a b : ConditionsTree) → ConditionsAreResolved p v a → ConditionsAreResolved p v b → MaybeValue p v (equated o a b)
equated_resolved p v o (Conditions a) (Conditions b) first second = (first, second)
equated_resolved p v o (Conditions a) MixedConditions first second = tt
equated_resolved p v o (Conditions a) ErrorConditions first second = tt
equated_resolved p v o MixedConditions (Conditions b) first second = tt
equated_resolved p v o MixedConditions MixedConditions first second = tt
equated_resolved p v o MixedConditions ErrorConditions first second = tt
equated_resolved p v o ErrorConditions b first second = tt

two_compared : (p : ProgramTree) (v : VisibleTree) (o : ComparisonOperator) (a b : ValueTree) → ValueIsResolved p v a → ValueIsResolved p v b
    → MaybeValue p v (compared o (first_integer a) (first_integer b))
two_compared p v o a b first second =
    compared_resolved p v o (first_integer a) (first_integer b) (first_integer_resolved p v a first) (first_integer_resolved p v b second)

two_related : (p : ProgramTree) (v : VisibleTree) (r : Relation) (a b : ValueTree) → ValueIsResolved p v a → ValueIsResolved p v b → MaybeValue p v (related_value r a b)
two_related p v relation.Equal (Integer e) b first second = two_compared p v comparison.Equal (Integer e) b first second
two_related p v relation.Equal (Condition c) b first second =
    equated_resolved p v connective.Equal (Conditions c) (first_condition b) first (first_condition_resolved p v b second)
two_related p v relation.Equal (Vertex at) b first second = two_compared p v comparison.Equal (Vertex at) b first second
two_related p v relation.Equal (Set slot) b first second = two_compared p v comparison.Equal (Set slot) b first second
two_related p v relation.Equal ErrorValue b first second = tt
two_related p v relation.NotEqual (Integer e) b first second = two_compared p v comparison.NotEqual (Integer e) b first second
two_related p v relation.NotEqual (Condition c) b first second =
    equated_resolved p v connective.NotEqual (Conditions c) (first_condition b) first (first_condition_resolved p v b second)
two_related p v relation.NotEqual (Vertex at) b first second = two_compared p v comparison.NotEqual (Vertex at) b first second
two_related p v relation.NotEqual (Set slot) b first second = two_compared p v comparison.NotEqual (Set slot) b first second
two_related p v relation.NotEqual ErrorValue b first second = tt
two_related p v relation.Less a b first second = two_compared p v comparison.Less a b first second
two_related p v relation.LessOrEqual a b first second = two_compared p v comparison.LessOrEqual a b first second
two_related p v relation.Greater a b first second = two_compared p v comparison.Greater a b first second
two_related p v relation.GreaterOrEqual a b first second = two_compared p v comparison.GreaterOrEqual a b first second

signed_resolved : (p : ProgramTree) (v : VisibleTree) (sign : Prefix) (x : ValueTree) → ValueIsResolved p v x → MaybeValue p v (signed_value sign x)
signed_resolved p v prefix.Minus (Integer e) is = is
signed_resolved p v prefix.Minus (Condition c) is = tt
signed_resolved p v prefix.Minus (Vertex at) is = is
signed_resolved p v prefix.Minus (Set slot) is = tt
signed_resolved p v prefix.Minus ErrorValue is = tt
signed_resolved p v prefix.Not (Integer e) is = tt
signed_resolved p v prefix.Not (Condition c) is = is
signed_resolved p v prefix.Not (Vertex at) is = tt
signed_resolved p v prefix.Not (Set slot) is = tt
signed_resolved p v prefix.Not ErrorValue is = tt

-- entries
if_value : (p : ProgramTree) (v : VisibleTree) (b : Bool) (x y : WithFaults ValueTree) → ValueIsResolved p v x.value → ValueIsResolved p v y.value
    → ValueIsResolved p v (if b then x else y).value
if_value p v true x y first other = first
if_value p v false x y first other = other

error_index : (p : ProgramTree) (v : VisibleTree) (at : ℕ) (reads : Bool) → ValueIsResolved p v (condition_index at reads).value
error_index p v at true = tt
error_index p v at false = tt

main_entry_resolved : (p : ProgramTree) (v : VisibleTree) (at vector : ℕ) (x : ValueTree) → v.indexes ≡ true → IsVectorIndex p vector → ValueIsResolved p v x
    → ValueIsResolved p v (entry_value inside.Main at (Some vector) x).value
main_entry_resolved p v at vector (Integer e) main there is = if_value p v (reads_entry e) _ _ tt (main, there, is)
main_entry_resolved p v at vector (Condition c) main there is = error_index p v at (condition_reads_entry c)
main_entry_resolved p v at vector (Vertex e) main there is = (main, there, is)
main_entry_resolved p v at vector (Set slot) main there is = tt
main_entry_resolved p v at vector ErrorValue main there is = tt

function_entry_resolved : (p : ProgramTree) (v : VisibleTree) (at vector : ℕ) (x : ValueTree) → IsVectorIndex p vector → ValueIsResolved p v x
    → ValueIsResolved p v (entry_value inside.VertexFunction at (Some vector) x).value
function_entry_resolved p v at vector (Integer e) there is = tt
function_entry_resolved p v at vector (Condition c) there is = tt
function_entry_resolved p v at vector (Vertex e) there is = (there, is)
function_entry_resolved p v at vector (Set slot) there is = tt
function_entry_resolved p v at vector ErrorValue there is = tt

entry_resolved : (p : ProgramTree) (v : VisibleTree) (i : Inside) (at : ℕ) (vector : Option ℕ) (x : ValueTree) → (i ≡ inside.Main → v.indexes ≡ true) → MaybeVariable (IsVectorIndex p) vector
    → ValueIsResolved p v x
    → ValueIsResolved p v (entry_value i at vector x).value
entry_resolved p v i at None x main there is = tt
entry_resolved p v inside.Main at (Some vector) x main there is = main_entry_resolved p v at vector x (main refl) there is
entry_resolved p v inside.EdgeFunction at (Some vector) x main there is = function_entry_resolved p v at vector x there is
entry_resolved p v inside.VertexFunction at (Some vector) x main there is = function_entry_resolved p v at vector x there is
entry_resolved p v inside.Filter at (Some vector) x main there is = function_entry_resolved p v at vector x there is

-- expressions
mutual
  pub value_resolved : (p : ProgramTree) (v : VisibleTree) (scope : ScopeTree) (at : ℕ) → Known p v scope → (e : ExpressionTree) → ValueIsResolved p v (value_of scope at e).value
  value_resolved p v scope at known (LastConjunction c) = conjunction_resolved p v scope at known c
  value_resolved p v scope at known (ConjunctionThen c others) =
      let x = (conjunction_value scope at c).value in
      grouped_conditions_resolved p v at (disjuncts scope at (first_condition x) others).value
      (disjuncts_resolved p v scope at known (first_condition x) others (first_condition_resolved p v x (conjunction_resolved p v scope at known c)))

  disjuncts_resolved : (p : ProgramTree) (v : VisibleTree) (scope : ScopeTree) (at : ℕ) → Known p v scope → (left : ConditionsTree) (e : ExpressionTree) → ConditionsAreResolved p v left
      → ConditionsAreResolved p v (disjuncts scope at left e).value
  disjuncts_resolved p v scope at known left (LastConjunction c) is =
      let x = (conjunction_value scope at c).value in
      beside_condition_resolved p v connective.Or left (first_condition x) is (first_condition_resolved p v x (conjunction_resolved p v scope at known c))
  disjuncts_resolved p v scope at known left (ConjunctionThen c others) is =
      let x = (conjunction_value scope at c).value in
      disjuncts_resolved p v scope at known (beside_condition connective.Or left (first_condition x)) others
      (beside_condition_resolved p v connective.Or left (first_condition x) is (first_condition_resolved p v x (conjunction_resolved p v scope at known c)))

  conjunction_resolved : (p : ProgramTree) (v : VisibleTree) (scope : ScopeTree) (at : ℕ) → Known p v scope → (c : ConjunctionTree) → ValueIsResolved p v (conjunction_value scope at c).value
  conjunction_resolved p v scope at known (LastComparison c) = comparison_resolved p v scope at known c
  conjunction_resolved p v scope at known (ComparisonThen c others) =
      let x = (comparison_value scope at c).value in
      grouped_conditions_resolved p v at (conjuncts scope at (first_condition x) others).value
      (conjuncts_resolved p v scope at known (first_condition x) others (first_condition_resolved p v x (comparison_resolved p v scope at known c)))

  conjuncts_resolved : (p : ProgramTree) (v : VisibleTree) (scope : ScopeTree) (at : ℕ) → Known p v scope → (left : ConditionsTree) (c : ConjunctionTree) → ConditionsAreResolved p v left
      → ConditionsAreResolved p v (conjuncts scope at left c).value
  conjuncts_resolved p v scope at known left (LastComparison c) is =
      let x = (comparison_value scope at c).value in
      beside_condition_resolved p v connective.And left (first_condition x) is (first_condition_resolved p v x (comparison_resolved p v scope at known c))
  conjuncts_resolved p v scope at known left (ComparisonThen c others) is =
      let x = (comparison_value scope at c).value in
      conjuncts_resolved p v scope at known (beside_condition connective.And left (first_condition x)) others
      (beside_condition_resolved p v connective.And left (first_condition x) is (first_condition_resolved p v x (comparison_resolved p v scope at known c)))

  comparison_resolved : (p : ProgramTree) (v : VisibleTree) (scope : ScopeTree) (at : ℕ) → Known p v scope → (c : ComparisonTree) → ValueIsResolved p v (comparison_value scope at c).value
  comparison_resolved p v scope at known (OneSum s) = sum_resolved p v scope at known s
  comparison_resolved p v scope at known (TwoSums left r right) =
      let a = (sum_value scope at left).value in
      let b = (sum_value scope at right).value in
      given_resolved p v at rule.WrongType (related_value r a b) (two_related p v r a b (sum_resolved p v scope at known left) (sum_resolved p v scope at known right))

  sum_resolved : (p : ProgramTree) (v : VisibleTree) (scope : ScopeTree) (at : ℕ) → Known p v scope → (s : SumTree) → ValueIsResolved p v (sum_value scope at s).value
  sum_resolved p v scope at known (LastTerm t) = term_resolved p v scope at known t
  sum_resolved p v scope at known (TermThen t o others) =
      let x = (term_value scope at t).value in
      grouped_integers_resolved p v at (summands scope at (first_integer x) o others).value
      (summands_resolved p v scope at known (first_integer x) o others (first_integer_resolved p v x (term_resolved p v scope at known t)))

  summands_resolved : (p : ProgramTree) (v : VisibleTree) (scope : ScopeTree) (at : ℕ) → Known p v scope → (left : IntegersTree) (o : Addition) (s : SumTree) → IntegersAreResolved p v left
      → IntegersAreResolved p v (summands scope at left o s).value
  summands_resolved p v scope at known left o (LastTerm t) is =
      let x = (term_value scope at t).value in
      beside_integer_resolved p v (addition_operator o) left (first_integer x) is (first_integer_resolved p v x (term_resolved p v scope at known t))
  summands_resolved p v scope at known left o (TermThen t next others) is =
      let x = (term_value scope at t).value in
      summands_resolved p v scope at known (beside_integer (addition_operator o) left (first_integer x)) next others
      (beside_integer_resolved p v (addition_operator o) left (first_integer x) is (first_integer_resolved p v x (term_resolved p v scope at known t)))

  term_resolved : (p : ProgramTree) (v : VisibleTree) (scope : ScopeTree) (at : ℕ) → Known p v scope → (t : TermTree) → ValueIsResolved p v (term_value scope at t).value
  term_resolved p v scope at known (LastUnary u) = unary_resolved p v scope at known u
  term_resolved p v scope at known (UnaryThen u o others) =
      let x = (unary_value scope at u).value in
      grouped_integers_resolved p v at (factors scope at (first_integer x) o others).value
      (factors_resolved p v scope at known (first_integer x) o others (first_integer_resolved p v x (unary_resolved p v scope at known u)))

  factors_resolved : (p : ProgramTree) (v : VisibleTree) (scope : ScopeTree) (at : ℕ) → Known p v scope → (left : IntegersTree) (o : Multiplication) (t : TermTree) → IntegersAreResolved p v left
      → IntegersAreResolved p v (factors scope at left o t).value
  factors_resolved p v scope at known left o (LastUnary u) is =
      let x = (unary_value scope at u).value in
      beside_integer_resolved p v (multiplied o) left (first_integer x) is (first_integer_resolved p v x (unary_resolved p v scope at known u))
  factors_resolved p v scope at known left o (UnaryThen u next others) is =
      let x = (unary_value scope at u).value in
      factors_resolved p v scope at known (beside_integer (multiplied o) left (first_integer x)) next others
      (beside_integer_resolved p v (multiplied o) left (first_integer x) is (first_integer_resolved p v x (unary_resolved p v scope at known u)))

  unary_resolved : (p : ProgramTree) (v : VisibleTree) (scope : ScopeTree) (at : ℕ) → Known p v scope → (u : UnaryTree) → ValueIsResolved p v (unary_value scope at u).value
  unary_resolved p v scope at known (Bare e) = primary_resolved p v scope at known e
  unary_resolved p v scope at known (Signed sign u) =
      let x = (unary_value scope at u).value in
      given_resolved p v at rule.WrongType (signed_value sign x) (signed_resolved p v sign x (unary_resolved p v scope at known u))

  primary_resolved : (p : ProgramTree) (v : VisibleTree) (scope : ScopeTree) (at : ℕ) → Known p v scope → (e : PrimaryTree) → ValueIsResolved p v (primary_value scope at e).value
  primary_resolved p v scope at known (Literal n) = tt
  primary_resolved p v scope at known (Truth b) = tt
  primary_resolved p v scope at known (Variable name) =
      let e = (used_name scope name).value in
      given_resolved p v at rule.WrongType (named_value e) (named_resolved p v e (used_resolved p v scope name known))
  primary_resolved p v scope at known (Entry name index) =
      entry_resolved p v scope.inside at (vector_index scope at name).value (index_value scope at index).value known.0
      (vector_resolved p v scope at name known)
      (if_value p v (index_lacks_value scope.inside scope index) (sure no_vertex) (value_of scope at index) tt (value_resolved p v scope at known index))
  primary_resolved p v scope at known (Size name) = size_resolved p v at (used_name scope name).value (used_resolved p v scope name known)
  primary_resolved p v scope at known (Parentheses inside) = value_resolved p v scope at known inside

-- values of the type that their place wants
pub as_integer_resolved : (p : ProgramTree) (v : VisibleTree) (at : ℕ) (x : ValueTree) → ValueIsResolved p v x → IntegerIsResolved p v (integer_wanted at x).value
as_integer_resolved p v at (Integer e) is = is
as_integer_resolved p v at (Condition c) is = tt
as_integer_resolved p v at (Vertex e) is = is
as_integer_resolved p v at (Set slot) is = tt
as_integer_resolved p v at ErrorValue is = tt

as_condition_resolved : (p : ProgramTree) (v : VisibleTree) (at : ℕ) (x : ValueTree) → ValueIsResolved p v x → ConditionIsResolved p v (condition_wanted at x).value
as_condition_resolved p v at (Integer e) is = tt
as_condition_resolved p v at (Condition c) is = is
as_condition_resolved p v at (Vertex e) is = tt
as_condition_resolved p v at (Set slot) is = tt
as_condition_resolved p v at ErrorValue is = tt

as_members_resolved : (p : ProgramTree) (v : VisibleTree) (at : ℕ) (x : ValueTree) → ValueIsResolved p v x → SetIsResolved p v (as_members at x).value
as_members_resolved p v at (Integer e) is = tt
as_members_resolved p v at (Condition c) is = tt
as_members_resolved p v at (Vertex e) is = tt
as_members_resolved p v at (Set slot) is = is
as_members_resolved p v at ErrorValue is = tt

pub integer_in_resolved : (p : ProgramTree) (v : VisibleTree) (scope : ScopeTree) (at : ℕ) → Known p v scope → (e : ExpressionTree) → IntegerIsResolved p v (integer_in scope at e).value
integer_in_resolved p v scope at known e = as_integer_resolved p v at (value_of scope at e).value (value_resolved p v scope at known e)

pub condition_in_resolved : (p : ProgramTree) (v : VisibleTree) (scope : ScopeTree) (at : ℕ) → Known p v scope → (e : ExpressionTree) → ConditionIsResolved p v (condition_in scope at e).value
condition_in_resolved p v scope at known e = as_condition_resolved p v at (value_of scope at e).value (value_resolved p v scope at known e)

-- an index, where there is one
abbrev pub MaybeIndex : ProgramTree → VisibleTree → Option IntExpressionTree → Type 0
MaybeIndex p v None = Unit {0}
MaybeIndex p v (Some e) = IntegerIsResolved p v e

if_index : (p : ProgramTree) (v : VisibleTree) (b : Bool) (x y : WithFaults (Option IntExpressionTree)) → MaybeIndex p v x.value → MaybeIndex p v y.value
    → MaybeIndex p v (if b then x else y).value
if_index p v true x y first other = first
if_index p v false x y first other = other

no_index_resolved : (p : ProgramTree) (v : VisibleTree) (at : ℕ) (reads : Bool) → MaybeIndex p v (no_index at reads).value
no_index_resolved p v at true = tt
no_index_resolved p v at false = tt

pub index_resolved : (p : ProgramTree) (v : VisibleTree) (at : ℕ) (x : ValueTree) → ValueIsResolved p v x → MaybeIndex p v (as_index at x).value
index_resolved p v at (Integer e) is = if_index p v (reads_entry e) _ _ tt is
index_resolved p v at (Condition c) is = no_index_resolved p v at (condition_reads_entry c)
index_resolved p v at (Vertex e) is = is
index_resolved p v at (Set slot) is = tt
index_resolved p v at ErrorValue is = tt

-- ends of applies
abbrev pub EndTreeIsResolved : ProgramTree → VisibleTree → ApplyEndTree → Type 0
EndTreeIsResolved p v e = EndIsResolved p v (given_filter e)

filter_named_resolved : (p : ProgramTree) (v : VisibleTree) (e : Entity) → EntityIsResolved p v e → EndTreeIsResolved p v (filter_named e)
filter_named_resolved p v (entity.ConstantSet slot) is = is
filter_named_resolved p v (entity.SetVariable slot) is = is
filter_named_resolved p v (entity.Filter index) is = is
filter_named_resolved p v _ is = tt

pub end_resolved : (p : ProgramTree) (v : VisibleTree) (scope : ScopeTree) → Known p v scope → (name : Option Identifier) → EndTreeIsResolved p v (apply_end_of scope name).value
end_resolved p v scope known None = tt
end_resolved p v scope known (Some name) = filter_named_resolved p v (used_name scope name).value (used_resolved p v scope name known)

-- initial values
abbrev pub InitializerIsResolved : ProgramTree → VisibleTree → InitializerTree → Type 0
InitializerIsResolved p v (Typed x) = ValueIsResolved p v x
InitializerIsResolved p v (Members s) = SetIsResolved p v s
InitializerIsResolved p v Loaded = Unit {0}
InitializerIsResolved p v Degrees = Unit {0}
InitializerIsResolved p v ErrorInitializer = Unit {0}

if_initializer : (p : ProgramTree) (v : VisibleTree) (b : Bool) (x y : WithFaults InitializerTree) → InitializerIsResolved p v x.value → InitializerIsResolved p v y.value
    → InitializerIsResolved p v (if b then x else y).value
if_initializer p v true x y first other = first
if_initializer p v false x y first other = other

of_edges_resolved : (p : ProgramTree) (v : VisibleTree) (at : ℕ) (x : InitializerTree) (e : Entity) → InitializerIsResolved p v x → InitializerIsResolved p v (of_edges at x e).value
of_edges_resolved p v at x e is = if_initializer p v (names_error e) _ _ tt (if_initializer p v (is_edges e) _ _ is tt)

filtered_by_resolved : (p : ProgramTree) (v : VisibleTree) (at : ℕ) (slot : Option VarRef) (index : Option ℕ) → MaybeSet p v slot → MaybeVariable (IsFilter p) index
    → InitializerIsResolved p v (filtered_by at slot index).value
filtered_by_resolved p v at None index set filter = tt
filtered_by_resolved p v at (Some slot) None set filter = tt
filtered_by_resolved p v at (Some slot) (Some index) set filter = (set, filter)

filtered_resolved : (p : ProgramTree) (v : VisibleTree) (at : ℕ) (s f : Entity) → EntityIsResolved p v s → EntityIsResolved p v f → InitializerIsResolved p v (filtered_set at s f).value
filtered_resolved p v at s f set filter =
    if_initializer p v (names_error s || names_error f) _ _ tt
    (filtered_by_resolved p v at (entity_set s) (filter_function f) (named_set_resolved p v s set) (filter_function_resolved p v f filter))

modified_by_resolved : (p : ProgramTree) (v : VisibleTree) (c : CheckerTree) (at : ℕ) (ends : ApplyEnds) (function vector : Option ℕ) → EndsAreResolved p v ends
    → MaybeVariable (IsEdgeFunction p) function → MaybeVariable (IsVectorIndex p) vector → InitializerIsResolved p v (modified_by c at ends function vector).value
modified_by_resolved p v c at ends None vector filters first other = tt
modified_by_resolved p v c at ends (Some function) None filters first other = tt
modified_by_resolved p v c at ends (Some function) (Some vector) filters first other =
    if_initializer p v (writes_vector c.written function vector) _ _ (filters, first, other) tt

modified_resolved : (p : ProgramTree) (v : VisibleTree) (c : CheckerTree) (at : ℕ) (e : Entity) (a b : ApplyEndTree) (f x : Entity) → EndTreeIsResolved p v a → EndTreeIsResolved p v b
    → EntityIsResolved p v f → EntityIsResolved p v x → InitializerIsResolved p v (initial_modified c at e a b f x).value
modified_resolved p v c at e a b f x from to function vector =
    if_initializer p v (names_error e || is_error_end a || is_error_end b || names_error f || names_error x) _ _ tt
    (if_initializer p v (is_edges e) _ _
    (if_initializer p v (is_wrong a || is_wrong b || lacks_weights e f) _ _ tt
    (modified_by_resolved p v c at (ends_given a b) (edge_function f) (vector_of x) (from, to) (edge_function_resolved p v f function) (vector_of_resolved p v x vector))) tt)

new_set_resolved : (p : ProgramTree) (v : VisibleTree) (at : ℕ) (n : ℤ) → InitializerIsResolved p v (new_set at n).value
new_set_resolved p v at (pos zero) = tt
new_set_resolved p v at (pos (suc n)) = tt
new_set_resolved p v at (negsuc n) = tt

loaded_resolved : (p : ProgramTree) (v : VisibleTree) (at : ℕ) (n : ℤ) → InitializerIsResolved p v (loaded at n).value
loaded_resolved p v at (pos zero) = tt
loaded_resolved p v at (pos (suc zero)) = tt
loaded_resolved p v at (pos (suc (suc n))) = tt
loaded_resolved p v at (negsuc n) = tt

pub initializer_resolved : (p : ProgramTree) (v : VisibleTree) (c : CheckerTree) (at : ℕ) → Known p v c.scope → (initial : InitialTree) → InitializerIsResolved p v (initializer_of c at initial).value
initializer_resolved p v c at known (source.NewSet size) = new_set_resolved p v at size
initializer_resolved p v c at known (source.Load argument) = loaded_resolved p v at argument
initializer_resolved p v c at known (source.Vertices edges) = of_edges_resolved p v at (Members set.All) (used_name c.scope edges).value tt
initializer_resolved p v c at known (source.OutDegrees edges) = of_edges_resolved p v at Degrees (used_name c.scope edges).value tt
initializer_resolved p v c at known (source.Filter s f) =
    filtered_resolved p v at (used_name c.scope s).value (used_name c.scope f).value (used_resolved p v c.scope s known) (used_resolved p v c.scope f known)
initializer_resolved p v c at known (source.ApplyModified edges ends f x) =
    modified_resolved p v c at (used_name c.scope edges).value (apply_end_of c.scope ends.from).value (apply_end_of c.scope ends.to).value (used_name c.scope f).value (used_name c.scope x).value
    (end_resolved p v c.scope known ends.from) (end_resolved p v c.scope known ends.to) (used_resolved p v c.scope f known) (used_resolved p v c.scope x known)
initializer_resolved p v c at known (source.Value e) = value_resolved p v c.scope at known e

pub initializer_integer_resolved : (p : ProgramTree) (v : VisibleTree) (at : ℕ) (x : InitializerTree) → InitializerIsResolved p v x → IntegerIsResolved p v (initializer_integer at x).value
initializer_integer_resolved p v at (Typed x) is = as_integer_resolved p v at x is
initializer_integer_resolved p v at (Members s) is = tt
initializer_integer_resolved p v at Loaded is = tt
initializer_integer_resolved p v at Degrees is = tt
initializer_integer_resolved p v at ErrorInitializer is = tt

pub initializer_condition_resolved : (p : ProgramTree) (v : VisibleTree) (at : ℕ) (x : InitializerTree) → InitializerIsResolved p v x → ConditionIsResolved p v (initializer_condition at x).value
initializer_condition_resolved p v at (Typed x) is = as_condition_resolved p v at x is
initializer_condition_resolved p v at (Members s) is = tt
initializer_condition_resolved p v at Loaded is = tt
initializer_condition_resolved p v at Degrees is = tt
initializer_condition_resolved p v at ErrorInitializer is = tt

pub initializer_members_resolved : (p : ProgramTree) (v : VisibleTree) (at : ℕ) (x : InitializerTree) → InitializerIsResolved p v x → SetIsResolved p v (initializer_members at x).value
initializer_members_resolved p v at (Typed x) is = as_members_resolved p v at x is
initializer_members_resolved p v at (Members s) is = is
initializer_members_resolved p v at Loaded is = tt
initializer_members_resolved p v at Degrees is = tt
initializer_members_resolved p v at ErrorInitializer is = tt
