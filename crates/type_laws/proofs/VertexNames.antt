-- An expression whose value is a vertex of the function is a parameter's name.
use Rattle.std.proofs.Common.{◌≡◌, ℕ, Bool, true, false, if◌then◌else◌, List, [], Option, Some, None}
use Rattle.std.specs.List.{Contains}
use Rattle.syntax.specs.declared.operators.Prefix.{Prefix}
use Rattle.syntax.specs.declared.operators.Prefix.TheVariants as prefix
use Rattle.syntax.specs.declared.operators.Relation.{Relation}
use Rattle.syntax.specs.declared.operators.Relation.TheVariants as relation
use Rattle.syntax.specs.SourceTrees as tree
use Rattle.syntax.specs.SourceTrees.{ExpressionTree, ConjunctionTree, ComparisonTree, SumTree, TermTree, UnaryTree, PrimaryTree}
use Rattle.typed_tree.specs.declared.expression.ComparisonOperator.{ComparisonOperator}
use Rattle.typed_tree.specs.declared.expression.ComparisonOperator.TheVariants as comparison
use Rattle.typed_tree.specs.declared.expression.Connective.{Connective}
use Rattle.typed_tree.specs.declared.expression.Connective.TheVariants as connective
use Rattle.typed_tree.specs.declared.expression.Endpoint.{Endpoint}
use Rattle.typed_tree.specs.IntExpressionTree.{IntExpressionTree, Entry}
use Rattle.expression_types.specs.declared.fault.TypeRule.{TypeRule}
use Rattle.expression_types.specs.declared.fault.TypeRule.TheVariants as rule
use Rattle.expression_types.specs.declared.scope.Entity.{Entity}
use Rattle.expression_types.specs.declared.scope.Entity.TheVariants as entity
use Rattle.expression_types.specs.declared.scope.Inside.{Inside}
use Rattle.expression_types.specs.declared.scope.Inside.TheVariants as inside
use Rattle.expression_types.specs.Expression.{as_size, comparison_value, conjunction_value, conjuncts, disjuncts, factors, index_lacks_value, index_value, no_vertex, primary_value, sum_value}
use Rattle.expression_types.specs.Expression.{summands, term_value, unary_value, used_name, value_of, vector_index}
use Rattle.expression_types.specs.Faults.{WithFaults, fault_at, sure}
use Rattle.expression_types.specs.Operators.{IntegersTree, Integers, MixedIntegers, ErrorIntegers, ConditionsTree, Conditions, MixedConditions, ErrorConditions, compared, condition_index, entry_value}
use Rattle.expression_types.specs.Operators.{equated, first_condition, first_integer, function_entry, given_or_fault, grouped_conditions, grouped_integers, main_entry, related_value, signed_value}
use Rattle.expression_types.specs.ScopeTree.{ScopeTree}
use Rattle.expression_types.specs.ValueTree.{ValueTree, Integer, Condition, Vertex, Set, ErrorValue, condition_reads_entry, named_value, reads_entry}
use Rattle.expression_types.specs.BareNames.{comparison_name, conjunction_name, primary_name, sum_name, term_name, unary_name}
use Rattle.type_laws.specs.EntryAccess.{IsAmong, IsNameAmong}
use Rattle.type_laws.proofs.Faultless.{no_left}
use Rattle.type_laws.proofs.KnownScopes.{EntityIsKnown, IsKnown, Vertices, used_known}

-- the value is such a vertex
abbrev pub IsVertexSo : (Endpoint → Type 0) → ValueTree → Type 0
IsVertexSo So (Integer e) = ⊥
IsVertexSo So (Condition c) = ⊥
IsVertexSo So (Vertex p) = So p
IsVertexSo So (Set slot) = ⊥
IsVertexSo So ErrorValue = ⊥

abbrev MaybeVertex : (Endpoint → Type 0) → Option ValueTree → Type 0
MaybeVertex So None = ⊥
MaybeVertex So (Some v) = IsVertexSo So v

given_vertex : (So : Endpoint → Type 0) (at : ℕ) (rule : TypeRule) (o : Option ValueTree) → IsVertexSo So (given_or_fault at rule o).value → MaybeVertex So o
given_vertex So at rule None is = is
given_vertex So at rule (Some v) is = is

-- what no vertex is
grouped_integers_no_vertex : (So : Endpoint → Type 0) (at : ℕ) (a : IntegersTree) → IsVertexSo So (grouped_integers at a).value → ⊥
grouped_integers_no_vertex So at (Integers e) is = is
grouped_integers_no_vertex So at MixedIntegers is = is
grouped_integers_no_vertex So at ErrorIntegers is = is

grouped_conditions_no_vertex : (So : Endpoint → Type 0) (at : ℕ) (a : ConditionsTree) → IsVertexSo So (grouped_conditions at a).value → ⊥
grouped_conditions_no_vertex So at (Conditions c) is = is
grouped_conditions_no_vertex So at MixedConditions is = is
grouped_conditions_no_vertex So at ErrorConditions is = is

compared_no_vertex : (So : Endpoint → Type 0) (o : ComparisonOperator) (a b : IntegersTree) → MaybeVertex So (compared o a b) → ⊥
compared_no_vertex So o (Integers a) (Integers b) is = is
compared_no_vertex So o (Integers a) MixedIntegers is = is
compared_no_vertex So o (Integers a) ErrorIntegers is = is
compared_no_vertex So o MixedIntegers (Integers b) is = is
compared_no_vertex So o MixedIntegers MixedIntegers is = is
compared_no_vertex So o MixedIntegers ErrorIntegers is = is
compared_no_vertex So o ErrorIntegers b is = is

equated_no_vertex : (So : Endpoint → Type 0) (o : Connective) (a b : ConditionsTree) → MaybeVertex So (equated o a b) → ⊥
equated_no_vertex So o (Conditions a) (Conditions b) is = is
equated_no_vertex So o (Conditions a) MixedConditions is = is
equated_no_vertex So o (Conditions a) ErrorConditions is = is
equated_no_vertex So o MixedConditions (Conditions b) is = is
equated_no_vertex So o MixedConditions MixedConditions is = is
equated_no_vertex So o MixedConditions ErrorConditions is = is
equated_no_vertex So o ErrorConditions b is = is

values_compared_no_vertex : (So : Endpoint → Type 0) (o : ComparisonOperator) (a b : ValueTree) → MaybeVertex So (compared o (first_integer a) (first_integer b)) → ⊥
values_compared_no_vertex So o a b is = compared_no_vertex So o (first_integer a) (first_integer b) is

related_no_vertex : (So : Endpoint → Type 0) (r : Relation) (a b : ValueTree) → MaybeVertex So (related_value r a b) → ⊥
related_no_vertex So relation.Equal (Integer e) b is = values_compared_no_vertex So comparison.Equal (Integer e) b is
related_no_vertex So relation.Equal (Condition c) b is = equated_no_vertex So connective.Equal (Conditions c) (first_condition b) is
related_no_vertex So relation.Equal (Vertex p) b is = values_compared_no_vertex So comparison.Equal (Vertex p) b is
related_no_vertex So relation.Equal (Set slot) b is = values_compared_no_vertex So comparison.Equal (Set slot) b is
related_no_vertex So relation.Equal ErrorValue b is = is
related_no_vertex So relation.NotEqual (Integer e) b is = values_compared_no_vertex So comparison.NotEqual (Integer e) b is
related_no_vertex So relation.NotEqual (Condition c) b is = equated_no_vertex So connective.NotEqual (Conditions c) (first_condition b) is
related_no_vertex So relation.NotEqual (Vertex p) b is = values_compared_no_vertex So comparison.NotEqual (Vertex p) b is
related_no_vertex So relation.NotEqual (Set slot) b is = values_compared_no_vertex So comparison.NotEqual (Set slot) b is
related_no_vertex So relation.NotEqual ErrorValue b is = is
related_no_vertex So relation.Less a b is = values_compared_no_vertex So comparison.Less a b is
related_no_vertex So relation.LessOrEqual a b is = values_compared_no_vertex So comparison.LessOrEqual a b is
related_no_vertex So relation.Greater a b is = values_compared_no_vertex So comparison.Greater a b is
related_no_vertex So relation.GreaterOrEqual a b is = values_compared_no_vertex So comparison.GreaterOrEqual a b is

signed_no_vertex : (So : Endpoint → Type 0) (sign : Prefix) (v : ValueTree) → MaybeVertex So (signed_value sign v) → ⊥
signed_no_vertex So prefix.Minus (Integer e) is = is
signed_no_vertex So prefix.Minus (Condition c) is = is
signed_no_vertex So prefix.Minus (Vertex p) is = is
signed_no_vertex So prefix.Minus (Set slot) is = is
signed_no_vertex So prefix.Minus ErrorValue is = is
signed_no_vertex So prefix.Not (Integer e) is = is
signed_no_vertex So prefix.Not (Condition c) is = is
signed_no_vertex So prefix.Not (Vertex p) is = is
signed_no_vertex So prefix.Not (Set slot) is = is
signed_no_vertex So prefix.Not ErrorValue is = is

size_no_vertex : (So : Endpoint → Type 0) (at : ℕ) (e : Entity) → IsVertexSo So (as_size at e).value → ⊥
size_no_vertex So at (entity.ConstantSet slot) is = is
size_no_vertex So at (entity.SetVariable slot) is = is
size_no_vertex So at _ is = is

index_no_vertex : (So : Endpoint → Type 0) (b : Bool) (at vector : ℕ) (e : IntExpressionTree)
    → IsVertexSo So (if b then fault_at at rule.WrongIndex ErrorValue else sure (Integer (Entry vector e))).value → ⊥
index_no_vertex So true at vector e is = is
index_no_vertex So false at vector e is = is

condition_index_no_vertex : (So : Endpoint → Type 0) (at : ℕ) (reads : Bool) → IsVertexSo So (condition_index at reads).value → ⊥
condition_index_no_vertex So at true is = is
condition_index_no_vertex So at false is = is

main_entry_no_vertex : (So : Endpoint → Type 0) (at vector : ℕ) (v : ValueTree) → IsVertexSo So (main_entry at vector v).value → ⊥
main_entry_no_vertex So at vector (Integer e) is = index_no_vertex So (reads_entry e) at vector e is
main_entry_no_vertex So at vector (Condition c) is = condition_index_no_vertex So at (condition_reads_entry c) is
main_entry_no_vertex So at vector (Vertex p) is = is
main_entry_no_vertex So at vector (Set slot) is = is
main_entry_no_vertex So at vector ErrorValue is = is

function_entry_no_vertex : (So : Endpoint → Type 0) (at vector : ℕ) (v : ValueTree) → IsVertexSo So (function_entry at vector v).value → ⊥
function_entry_no_vertex So at vector (Integer e) is = is
function_entry_no_vertex So at vector (Condition c) is = is
function_entry_no_vertex So at vector (Vertex p) is = is
function_entry_no_vertex So at vector (Set slot) is = is
function_entry_no_vertex So at vector ErrorValue is = is

entry_no_vertex : (So : Endpoint → Type 0) (i : Inside) (at : ℕ) (index : Option ℕ) (v : ValueTree) → IsVertexSo So (entry_value i at index v).value → ⊥
entry_no_vertex So i at None v is = is
entry_no_vertex So inside.Main at (Some vector) v is = main_entry_no_vertex So at vector v is
entry_no_vertex So inside.EdgeFunction at (Some vector) v is = function_entry_no_vertex So at vector v is
entry_no_vertex So inside.VertexFunction at (Some vector) v is = function_entry_no_vertex So at vector v is
entry_no_vertex So inside.Filter at (Some vector) v is = function_entry_no_vertex So at vector v is

-- what names may stand for such a vertex
pub record Names (At : Vertices) (i : Inside) (So : Endpoint → Type 0) (names : List (List ℕ)) (scope : ScopeTree) : Type 0 where
  pub known : IsKnown At i scope
  pub among : (p : Endpoint) (name : List ℕ) → So p → At p name → Contains names name

entity_is_name : (At : Vertices) (So : Endpoint → Type 0) (names : List (List ℕ)) (at : ℕ) (name : List ℕ) (e : Entity)
    → ((p : Endpoint) (name : List ℕ) → So p → At p name → Contains names name) → EntityIsKnown At name e → IsVertexSo So (given_or_fault at rule.WrongType (named_value e)).value
    → Contains names name
entity_is_name At So names at name (entity.Parameter p) among known is = among p name is known
entity_is_name At So names at name entity.Error among known is = absurd is
entity_is_name At So names at name _ among known is = absurd is

mutual
  pub expression_is_name : {At : Vertices} {i : Inside} {So : Endpoint → Type 0} {names : List (List ℕ)} (scope : ScopeTree) (at : ℕ) → Names At i So names scope → (e : ExpressionTree)
      → (value_of scope at e).faults ≡ [] → IsVertexSo So (value_of scope at e).value → IsNameAmong names e
  expression_is_name scope at n (tree.LastConjunction c) none is = conjunction_is_name scope at n c none is
  expression_is_name {So = So} scope at n (tree.ConjunctionThen c others) none is =
      grouped_conditions_no_vertex So at (disjuncts scope at (first_condition (conjunction_value scope at c).value) others).value is

  conjunction_is_name : {At : Vertices} {i : Inside} {So : Endpoint → Type 0} {names : List (List ℕ)} (scope : ScopeTree) (at : ℕ) → Names At i So names scope → (c : ConjunctionTree)
      → (conjunction_value scope at c).faults ≡ [] → IsVertexSo So (conjunction_value scope at c).value → IsAmong names (conjunction_name c)
  conjunction_is_name scope at n (tree.LastComparison c) none is = comparison_is_name scope at n c none is
  conjunction_is_name {So = So} scope at n (tree.ComparisonThen c others) none is =
      grouped_conditions_no_vertex So at (conjuncts scope at (first_condition (comparison_value scope at c).value) others).value is

  comparison_is_name : {At : Vertices} {i : Inside} {So : Endpoint → Type 0} {names : List (List ℕ)} (scope : ScopeTree) (at : ℕ) → Names At i So names scope → (c : ComparisonTree)
      → (comparison_value scope at c).faults ≡ [] → IsVertexSo So (comparison_value scope at c).value → IsAmong names (comparison_name c)
  comparison_is_name scope at n (tree.OneSum s) none is = sum_is_name scope at n s none is
  comparison_is_name {So = So} scope at n (tree.TwoSums left relation right) none is =
      let a = (sum_value scope at left).value in
      let b = (sum_value scope at right).value in
      related_no_vertex So relation a b (given_vertex So at rule.WrongType (related_value relation a b) is)

  sum_is_name : {At : Vertices} {i : Inside} {So : Endpoint → Type 0} {names : List (List ℕ)} (scope : ScopeTree) (at : ℕ) → Names At i So names scope → (s : SumTree)
      → (sum_value scope at s).faults ≡ [] → IsVertexSo So (sum_value scope at s).value → IsAmong names (sum_name s)
  sum_is_name scope at n (tree.LastTerm t) none is = term_is_name scope at n t none is
  sum_is_name {So = So} scope at n (tree.TermThen t o others) none is =
      grouped_integers_no_vertex So at (summands scope at (first_integer (term_value scope at t).value) o others).value is

  term_is_name : {At : Vertices} {i : Inside} {So : Endpoint → Type 0} {names : List (List ℕ)} (scope : ScopeTree) (at : ℕ) → Names At i So names scope → (t : TermTree)
      → (term_value scope at t).faults ≡ [] → IsVertexSo So (term_value scope at t).value → IsAmong names (term_name t)
  term_is_name scope at n (tree.LastUnary u) none is = unary_is_name scope at n u none is
  term_is_name {So = So} scope at n (tree.UnaryThen u o others) none is =
      grouped_integers_no_vertex So at (factors scope at (first_integer (unary_value scope at u).value) o others).value is

  unary_is_name : {At : Vertices} {i : Inside} {So : Endpoint → Type 0} {names : List (List ℕ)} (scope : ScopeTree) (at : ℕ) → Names At i So names scope → (u : UnaryTree)
      → (unary_value scope at u).faults ≡ [] → IsVertexSo So (unary_value scope at u).value → IsAmong names (unary_name u)
  unary_is_name scope at n (tree.Bare e) none is = primary_is_name scope at n e none is
  unary_is_name {So = So} scope at n (tree.Signed sign u) none is =
      let x = (unary_value scope at u).value in signed_no_vertex So sign x (given_vertex So at rule.WrongType (signed_value sign x) is)

  primary_is_name : {At : Vertices} {i : Inside} {So : Endpoint → Type 0} {names : List (List ℕ)} (scope : ScopeTree) (at : ℕ) → Names At i So names scope → (e : PrimaryTree)
      → (primary_value scope at e).faults ≡ [] → IsVertexSo So (primary_value scope at e).value → IsAmong names (primary_name e)
  primary_is_name scope at n (tree.Literal m) none is = is
  primary_is_name scope at n (tree.Truth b) none is = is
  primary_is_name {At = At} {i = i} {So = So} {names = names} scope at n (tree.Variable name) none is =
      let e = used_name scope name in
      entity_is_name At So names at name.bytes e.value n.among (used_known At i scope name n.known (no_left e.faults _ none)) is
  primary_is_name {So = So} scope at n (tree.Entry vector index) none is =
      entry_no_vertex So scope.inside at (vector_index scope at vector).value (index_value scope at index).value is
  primary_is_name {So = So} scope at n (tree.Size set) none is = size_no_vertex So at (used_name scope set).value is
  primary_is_name scope at n (tree.Parentheses inside) none is = expression_is_name scope at n inside none is

-- an index whose value is a vertex is a parameter's name too
if_is_name : (So : Endpoint → Type 0) (names : List (List ℕ)) (index : ExpressionTree) (value : WithFaults ValueTree) (lacks : Bool)
    → (value.faults ≡ [] → IsVertexSo So value.value → IsNameAmong names index)
    → (if lacks then sure no_vertex else value).faults ≡ [] → IsVertexSo So (if lacks then sure no_vertex else value).value → IsNameAmong names index
if_is_name So names index value true then_name none is = absurd is
if_is_name So names index value false then_name none is = then_name none is

pub index_is_name : {At : Vertices} {i : Inside} {So : Endpoint → Type 0} {names : List (List ℕ)} (scope : ScopeTree) (at : ℕ) → Names At i So names scope → (index : ExpressionTree)
    → (index_value scope at index).faults ≡ [] → IsVertexSo So (index_value scope at index).value → IsNameAmong names index
index_is_name {So = So} {names = names} scope at n index none is =
    if_is_name So names index (value_of scope at index) (index_lacks_value scope.inside scope index) (expression_is_name scope at n index) none is
