-- The faults of a form are those of its parts, and then those that it has itself.
use Rattle.std.proofs.Common.{◌≡◌, refl, ap, sym, ◌∙◌, ℕ, Bool, true, false, not, if◌then◌else◌, ◌&&◌, ◌||◌, List, [], ◌∷◌, ◌++◌, Option, Some, None}
use Rattle.std.specs.Prelude.{is_some}
use Rattle.std.proofs.lemmas.List.{append-nil, append_assoc}
use Rattle.syntax.specs.declared.operators.Addition.{Addition}
use Rattle.syntax.specs.declared.operators.Multiplication.{Multiplication}
use Rattle.syntax.specs.declared.operators.Prefix.{Prefix}
use Rattle.syntax.specs.declared.operators.Prefix.TheVariants as prefix
use Rattle.syntax.specs.declared.operators.Relation.{Relation}
use Rattle.syntax.specs.declared.operators.Relation.TheVariants as relation
use Rattle.syntax.specs.Terminals.{Identifier}
use Rattle.syntax.specs.SourceTrees as tree
use Rattle.syntax.specs.SourceTrees.{ExpressionTree, ConjunctionTree, ComparisonTree, SumTree, TermTree, UnaryTree, PrimaryTree}
use Rattle.typed_tree.specs.declared.expression.ComparisonOperator.{ComparisonOperator}
use Rattle.typed_tree.specs.declared.expression.ComparisonOperator.TheVariants as comparison
use Rattle.typed_tree.specs.declared.expression.Connective.{Connective}
use Rattle.typed_tree.specs.declared.expression.Connective.TheVariants as connective
use Rattle.typed_tree.specs.declared.expression.Endpoint.{Endpoint}
use Rattle.typed_tree.specs.declared.expression.Operator.{Operator}
use Rattle.typed_tree.specs.declared.expression.VarRef.{VarRef}
use Rattle.typed_tree.specs.BoolExpressionTree.{BoolExpressionTree}
use Rattle.typed_tree.specs.IntExpressionTree as integer
use Rattle.typed_tree.specs.IntExpressionTree.{IntExpressionTree}
use Rattle.expression_types.specs.declared.fault.Fault.{Fault}
use Rattle.expression_types.specs.declared.fault.TypeRule.TheVariants as rule
use Rattle.expression_types.specs.declared.scope.Entity.{Entity}
use Rattle.expression_types.specs.declared.scope.Entity.TheVariants as entity
use Rattle.expression_types.specs.declared.scope.Inside.{Inside}
use Rattle.expression_types.specs.declared.scope.Inside.TheVariants as inside
use Rattle.expression_types.specs.Expression.{as_size, comparison_value, conjunction_value, conjuncts, disjuncts, entry_of, factors, index_lacks_value, index_value, no_vertex, primary_value}
use Rattle.expression_types.specs.Expression.{sum_value, summands, term_value, unary_value, used_name, used_as, value_of}
use Rattle.expression_types.specs.ScopeTree.{found, ScopeTree}
use Rattle.expression_types.specs.Operators.{ConditionsTree, Conditions, MixedConditions, ErrorConditions, IntegersTree, Integers, MixedIntegers, ErrorIntegers, addition_operator, beside_condition}
use Rattle.expression_types.specs.Operators.{beside_integer, compared_value, condition_index, equated_value, first_condition, first_integer, given_or_fault, grouped_conditions, grouped_integers}
use Rattle.expression_types.specs.Operators.{multiplied, related_value, signed_value}
use Rattle.expression_types.specs.ValueTree.{ValueTree, Integer, Condition, Vertex, Set, ErrorValue, condition_reads_entry, is_error, entity_set, named_value, named_vector, reads_entry}
use Rattle.expression_types.specs.Faults.{WithFaults, fault_at, sure}
use Rattle.initializer_types.specs.Initial.{names_error}
use Rattle.type_laws.specs.ExpressionRules.{all_bools, all_ints, is_bool, is_int, may_be_index, own_faults, takes, takes_index, takes_sign}
use Rattle.type_laws.specs.ExpressionParts.{Form, Expression, Conjunction, Comparison, Sum, Term, Unary, Primary, Index, Name, any_faulty, conjuncts_of, disjuncts_of, factors_of, faults_of_all}
use Rattle.type_laws.specs.ExpressionParts.{form_faults, parts, summands_of}
use Rattle.type_laws.proofs.FaultyParts.{conjuncts_error, conjuncts_faults, disjuncts_error, disjuncts_faults, entry_at_error, factors_error, factors_faults, first_integers, first_row}
use Rattle.type_laws.proofs.FaultyParts.{is_error_integers, is_error_row, summands_error, summands_faults}

-- a fault of 223, if there is one
abbrev wrong_type : ℕ → Bool → List Fault
wrong_type at b = if b then record { at = at; rule = rule.WrongType } ∷ [] else []

-- all operands of a row are of the type that it takes
abbrev has_bools : ConditionsTree → Bool
has_bools (Conditions c) = true
has_bools MixedConditions = false
has_bools ErrorConditions = false

abbrev has_ints : IntegersTree → Bool
has_ints (Integers e) = true
has_ints MixedIntegers = false
has_ints ErrorIntegers = false

first_bool : (v : ValueTree) → has_bools (first_condition v) ≡ is_bool v
first_bool (Integer e) = refl
first_bool (Condition c) = refl
first_bool (Vertex p) = refl
first_bool (Set slot) = refl
first_bool ErrorValue = refl

first_int : (v : ValueTree) → has_ints (first_integer v) ≡ is_int v
first_int (Integer e) = refl
first_int (Condition c) = refl
first_int (Vertex p) = refl
first_int (Set slot) = refl
first_int ErrorValue = refl

beside_bools : (o : Connective) (a b : ConditionsTree) → has_bools (beside_condition o a b) ≡ (has_bools a && has_bools b)
beside_bools o (Conditions a) (Conditions b) = refl
beside_bools o (Conditions a) MixedConditions = refl
beside_bools o (Conditions a) ErrorConditions = refl
beside_bools o MixedConditions (Conditions b) = refl
beside_bools o MixedConditions MixedConditions = refl
beside_bools o MixedConditions ErrorConditions = refl
beside_bools o ErrorConditions b = refl

beside_ints : (o : Operator) (a b : IntegersTree) → has_ints (beside_integer o a b) ≡ (has_ints a && has_ints b)
beside_ints o (Integers a) (Integers b) = refl
beside_ints o (Integers a) MixedIntegers = refl
beside_ints o (Integers a) ErrorIntegers = refl
beside_ints o MixedIntegers (Integers b) = refl
beside_ints o MixedIntegers MixedIntegers = refl
beside_ints o MixedIntegers ErrorIntegers = refl
beside_ints o ErrorIntegers b = refl

beside_bool : (o : Connective) (a : ConditionsTree) (v : ValueTree) → has_bools (beside_condition o a (first_condition v)) ≡ (has_bools a && is_bool v)
beside_bool o a v = beside_bools o a (first_condition v) ∙ ap (λ b. has_bools a && b) (first_bool v)

beside_int : (o : Operator) (a : IntegersTree) (v : ValueTree) → has_ints (beside_integer o a (first_integer v)) ≡ (has_ints a && is_int v)
beside_int o a v = beside_ints o a (first_integer v) ∙ ap (λ b. has_ints a && b) (first_int v)

and_true : (a : Bool) → (a && true) ≡ a
and_true true = refl
and_true false = refl

and_assoc : (a b c : Bool) → ((a && b) && c) ≡ (a && (b && c))
and_assoc true b c = refl
and_assoc false b c = refl

disjuncts_bools : (scope : ScopeTree) (at : ℕ) (left : ConditionsTree) (e : ExpressionTree)
    → has_bools (disjuncts scope at left e).value ≡ (has_bools left && all_bools scope at (disjuncts_of e))
disjuncts_bools scope at left (tree.LastConjunction c) =
    let x = conjunction_value scope at c in
    beside_bool connective.Or left x.value ∙ ap (λ b. has_bools left && b) (sym (and_true (is_bool x.value)))
disjuncts_bools scope at left (tree.ConjunctionThen c others) =
    let x = conjunction_value scope at c in
    let rest = all_bools scope at (disjuncts_of others) in
    disjuncts_bools scope at (beside_condition connective.Or left (first_condition x.value)) others
    ∙ ap (λ b. b && rest) (beside_bool connective.Or left x.value) ∙ and_assoc (has_bools left) (is_bool x.value) rest

conjuncts_bools : (scope : ScopeTree) (at : ℕ) (left : ConditionsTree) (c : ConjunctionTree)
    → has_bools (conjuncts scope at left c).value ≡ (has_bools left && all_bools scope at (conjuncts_of c))
conjuncts_bools scope at left (tree.LastComparison c) =
    let x = comparison_value scope at c in
    beside_bool connective.And left x.value ∙ ap (λ b. has_bools left && b) (sym (and_true (is_bool x.value)))
conjuncts_bools scope at left (tree.ComparisonThen c others) =
    let x = comparison_value scope at c in
    let rest = all_bools scope at (conjuncts_of others) in
    conjuncts_bools scope at (beside_condition connective.And left (first_condition x.value)) others
    ∙ ap (λ b. b && rest) (beside_bool connective.And left x.value) ∙ and_assoc (has_bools left) (is_bool x.value) rest

summands_ints : (scope : ScopeTree) (at : ℕ) (left : IntegersTree) (o : Addition) (s : SumTree)
    → has_ints (summands scope at left o s).value ≡ (has_ints left && all_ints scope at (summands_of s))
summands_ints scope at left o (tree.LastTerm t) =
    let x = term_value scope at t in
    beside_int (addition_operator o) left x.value ∙ ap (λ b. has_ints left && b) (sym (and_true (is_int x.value)))
summands_ints scope at left o (tree.TermThen t next others) =
    let x = term_value scope at t in
    let rest = all_ints scope at (summands_of others) in
    summands_ints scope at (beside_integer (addition_operator o) left (first_integer x.value)) next others
    ∙ ap (λ b. b && rest) (beside_int (addition_operator o) left x.value) ∙ and_assoc (has_ints left) (is_int x.value) rest

factors_ints : (scope : ScopeTree) (at : ℕ) (left : IntegersTree) (o : Multiplication) (t : TermTree)
    → has_ints (factors scope at left o t).value ≡ (has_ints left && all_ints scope at (factors_of t))
factors_ints scope at left o (tree.LastUnary u) =
    let x = unary_value scope at u in
    beside_int (multiplied o) left x.value ∙ ap (λ b. has_ints left && b) (sym (and_true (is_int x.value)))
factors_ints scope at left o (tree.UnaryThen u next others) =
    let x = unary_value scope at u in
    let rest = all_ints scope at (factors_of others) in
    factors_ints scope at (beside_integer (multiplied o) left (first_integer x.value)) next others
    ∙ ap (λ b. b && rest) (beside_int (multiplied o) left x.value) ∙ and_assoc (has_ints left) (is_int x.value) rest

-- the faults of a whole row
abbrev if_sound : ℕ → (faulty fits : Bool) → List Fault
if_sound at faulty fits = if faulty then [] else wrong_type at (not fits)

grouped_own : (at : ℕ) (a : ConditionsTree) → (grouped_conditions at a).faults ≡ if_sound at (is_error_row a) (has_bools a)
grouped_own at (Conditions c) = refl
grouped_own at MixedConditions = refl
grouped_own at ErrorConditions = refl

grouped_integers_own : (at : ℕ) (a : IntegersTree) → (grouped_integers at a).faults ≡ if_sound at (is_error_integers a) (has_ints a)
grouped_integers_own at (Integers e) = refl
grouped_integers_own at MixedIntegers = refl
grouped_integers_own at ErrorIntegers = refl

-- a row whose first operand, whose others and whose own faults are known
row_own : (at : ℕ) (first rest own all : List Fault) (faulty fits some every : Bool) → rest ≡ all → own ≡ if_sound at faulty fits → faulty ≡ some → fits ≡ every
    → first ++ (rest ++ own) ≡ (first ++ all) ++ if_sound at some every
row_own at first rest own all faulty fits some every same is faults types =
    ap (λ fs. first ++ (rest ++ fs)) (is ∙ ap (λ b. if_sound at b fits) faults ∙ ap (λ b. if_sound at some b) types)
    ∙ ap (λ fs. first ++ (fs ++ if_sound at some every)) same ∙ sym (append_assoc first all (if_sound at some every))

-- a form that is its one part has no fault of its own
one_own : (fs : List Fault) (faulty : Bool) → fs ≡ (fs ++ []) ++ (if faulty then [] else [])
one_own fs true = sym (append-nil (fs ++ []) ∙ append-nil fs)
one_own fs false = sym (append-nil (fs ++ []) ∙ append-nil fs)

-- one part, and a fault of its own
part_own : (fs own wanted : List Fault) → own ≡ wanted → fs ++ own ≡ (fs ++ []) ++ wanted
part_own fs own wanted is = ap (λ ys. fs ++ ys) is ∙ ap (λ xs. xs ++ wanted) (sym (append-nil fs))

-- two parts
parts_own : (first second own wanted : List Fault) → own ≡ wanted → first ++ (second ++ own) ≡ (first ++ (second ++ [])) ++ wanted
parts_own first second own wanted is = ap (λ fs. first ++ fs) (part_own second own wanted is) ∙ sym (append_assoc first (second ++ []) wanted)

compared_own : (at : ℕ) (o : ComparisonOperator) (a b : ValueTree) → (given_or_fault at rule.WrongType (compared_value o a b)).faults ≡ if_sound at (is_error a || (is_error b || false))
    (is_int a && is_int b)
compared_own at o (Integer a) (Integer b) = refl
compared_own at o (Integer a) (Condition b) = refl
compared_own at o (Integer a) (Vertex b) = refl
compared_own at o (Integer a) (Set b) = refl
compared_own at o (Integer a) ErrorValue = refl
compared_own at o (Condition a) (Integer b) = refl
compared_own at o (Condition a) (Condition b) = refl
compared_own at o (Condition a) (Vertex b) = refl
compared_own at o (Condition a) (Set b) = refl
compared_own at o (Condition a) ErrorValue = refl
compared_own at o (Vertex a) (Integer b) = refl
compared_own at o (Vertex a) (Condition b) = refl
compared_own at o (Vertex a) (Vertex b) = refl
compared_own at o (Vertex a) (Set b) = refl
compared_own at o (Vertex a) ErrorValue = refl
compared_own at o (Set a) (Integer b) = refl
compared_own at o (Set a) (Condition b) = refl
compared_own at o (Set a) (Vertex b) = refl
compared_own at o (Set a) (Set b) = refl
compared_own at o (Set a) ErrorValue = refl
compared_own at o ErrorValue b = refl

equated_own : (at : ℕ) (o : Connective) (p : ComparisonOperator) (a b : ValueTree)
    → (given_or_fault at rule.WrongType (equated_value o p a b)).faults ≡ if_sound at (is_error a || (is_error b || false)) (is_int a && is_int b || is_bool a && is_bool b)
equated_own at o p (Integer a) (Integer b) = refl
equated_own at o p (Integer a) (Condition b) = refl
equated_own at o p (Integer a) (Vertex b) = refl
equated_own at o p (Integer a) (Set b) = refl
equated_own at o p (Integer a) ErrorValue = refl
equated_own at o p (Condition a) (Integer b) = refl
equated_own at o p (Condition a) (Condition b) = refl
equated_own at o p (Condition a) (Vertex b) = refl
equated_own at o p (Condition a) (Set b) = refl
equated_own at o p (Condition a) ErrorValue = refl
equated_own at o p (Vertex a) (Integer b) = refl
equated_own at o p (Vertex a) (Condition b) = refl
equated_own at o p (Vertex a) (Vertex b) = refl
equated_own at o p (Vertex a) (Set b) = refl
equated_own at o p (Vertex a) ErrorValue = refl
equated_own at o p (Set a) (Integer b) = refl
equated_own at o p (Set a) (Condition b) = refl
equated_own at o p (Set a) (Vertex b) = refl
equated_own at o p (Set a) (Set b) = refl
equated_own at o p (Set a) ErrorValue = refl
equated_own at o p ErrorValue b = refl

related_own : (at : ℕ) (r : Relation) (a b : ValueTree) → (given_or_fault at rule.WrongType (related_value r a b)).faults ≡ if_sound at (is_error a || (is_error b || false)) (takes r a b)
related_own at relation.Equal a b = equated_own at connective.Equal comparison.Equal a b
related_own at relation.NotEqual a b = equated_own at connective.NotEqual comparison.NotEqual a b
related_own at relation.Less a b = compared_own at comparison.Less a b
related_own at relation.LessOrEqual a b = compared_own at comparison.LessOrEqual a b
related_own at relation.Greater a b = compared_own at comparison.Greater a b
related_own at relation.GreaterOrEqual a b = compared_own at comparison.GreaterOrEqual a b

signed_own : (at : ℕ) (sign : Prefix) (v : ValueTree) → (given_or_fault at rule.WrongType (signed_value sign v)).faults ≡ if_sound at (is_error v || false) (takes_sign sign v)
signed_own at prefix.Minus (Integer e) = refl
signed_own at prefix.Minus (Condition c) = refl
signed_own at prefix.Minus (Vertex p) = refl
signed_own at prefix.Minus (Set slot) = refl
signed_own at prefix.Minus ErrorValue = refl
signed_own at prefix.Not (Integer e) = refl
signed_own at prefix.Not (Condition c) = refl
signed_own at prefix.Not (Vertex p) = refl
signed_own at prefix.Not (Set slot) = refl
signed_own at prefix.Not ErrorValue = refl

named_own : (at : ℕ) (e : Entity) → (given_or_fault at rule.WrongType (named_value e)).faults ≡ if_sound at (names_error e || false) (is_some (named_value e))
named_own at entity.Error = refl
named_own at _ = refl

size_own : (at : ℕ) (e : Entity) → (as_size at e).faults ≡ if_sound at (names_error e || false) (is_some (entity_set e))
size_own at entity.Error = refl
size_own at _ = refl

-- entries
abbrev entry_faults : ℕ → (wrong_type wrong_index : Bool) → List Fault
entry_faults at wrong index =
    if wrong then record { at = at; rule = rule.WrongType } ∷ (if index then record { at = at; rule = rule.WrongIndex } ∷ [] else [])
    else (if index then record { at = at; rule = rule.WrongIndex } ∷ [] else [])

abbrev if_entry_sound : Inside → ℕ → Entity → ValueTree → List Fault
if_entry_sound i at e v =
    if names_error e || (is_error v || false) then []
    else entry_faults at (not (is_some (named_vector e) && takes_index i v)) (is_some (named_vector e) && not (may_be_index i v))

integer_own : (at vector : ℕ) (e : IntExpressionTree) (reads : Bool) → (if reads then fault_at at rule.WrongIndex ErrorValue else sure
    (Integer (integer.Entry vector e))).faults ≡ entry_faults at false (not (not reads))
integer_own at vector e true = refl
integer_own at vector e false = refl

condition_own : (at : ℕ) (reads : Bool) → (condition_index at reads).faults ≡ entry_faults at true (not (not reads))
condition_own at true = refl
condition_own at false = refl

vector_own : (i : Inside) (at vector : ℕ) (v : ValueTree) → is_error v ≡ false → (entry_of i at (entity.Vector vector) v).faults ≡ if_entry_sound i at (entity.Vector vector) v
vector_own inside.Main at vector (Integer e) sound = integer_own at vector e (reads_entry e)
vector_own inside.Main at vector (Condition c) sound = condition_own at (condition_reads_entry c)
vector_own inside.Main at vector (Vertex p) sound = refl
vector_own inside.Main at vector (Set slot) sound = refl
vector_own inside.EdgeFunction at vector (Integer e) sound = refl
vector_own inside.EdgeFunction at vector (Condition c) sound = refl
vector_own inside.EdgeFunction at vector (Vertex p) sound = refl
vector_own inside.EdgeFunction at vector (Set slot) sound = refl
vector_own inside.VertexFunction at vector (Integer e) sound = refl
vector_own inside.VertexFunction at vector (Condition c) sound = refl
vector_own inside.VertexFunction at vector (Vertex p) sound = refl
vector_own inside.VertexFunction at vector (Set slot) sound = refl
vector_own inside.Filter at vector (Integer e) sound = refl
vector_own inside.Filter at vector (Condition c) sound = refl
vector_own inside.Filter at vector (Vertex p) sound = refl
vector_own inside.Filter at vector (Set slot) sound = refl
vector_own i at vector ErrorValue sound = absurd cc

integer_index_own : (i : Inside) (at : ℕ) (e : Entity) (x : IntExpressionTree) → (entry_of i at e (Integer x)).faults ≡ if_entry_sound i at e (Integer x)
integer_index_own i at (entity.Vector vector) x = vector_own i at vector (Integer x) refl
integer_index_own i at _ x = refl

condition_index_own : (i : Inside) (at : ℕ) (e : Entity) (c : BoolExpressionTree) → (entry_of i at e (Condition c)).faults ≡ if_entry_sound i at e (Condition c)
condition_index_own i at (entity.Vector vector) c = vector_own i at vector (Condition c) refl
condition_index_own i at _ c = refl

vertex_index_own : (i : Inside) (at : ℕ) (e : Entity) (p : Endpoint) → (entry_of i at e (Vertex p)).faults ≡ if_entry_sound i at e (Vertex p)
vertex_index_own i at (entity.Vector vector) p = vector_own i at vector (Vertex p) refl
vertex_index_own i at _ p = refl

set_index_own : (i : Inside) (at : ℕ) (e : Entity) (slot : VarRef) → (entry_of i at e (Set slot)).faults ≡ if_entry_sound i at e (Set slot)
set_index_own i at (entity.Vector vector) slot = vector_own i at vector (Set slot) refl
set_index_own i at _ slot = refl

error_index_own : (named : Bool) (others : List Fault) → [] ≡ (if named || (true || false) then [] else others)
error_index_own true others = refl
error_index_own false others = refl

entry_own : (i : Inside) (at : ℕ) (e : Entity) (v : ValueTree) → (entry_of i at e v).faults ≡ if_entry_sound i at e v
entry_own i at e (Integer x) = integer_index_own i at e x
entry_own i at e (Condition c) = condition_index_own i at e c
entry_own i at e (Vertex p) = vertex_index_own i at e p
entry_own i at e (Set slot) = set_index_own i at e slot
entry_own i at e ErrorValue = let silent = entry_at_error i at e in silent.0 ∙ error_index_own (names_error e) _

used_own : (name : Identifier) (o : Option Entity) → (used_as name o).faults ≡ (if not (is_some o) then record { at = name.at; rule = rule.UnknownName } ∷ [] else [])
used_own name None = refl
used_own name (Some e) = refl

-- an index, which may have no part
index_own : (scope : ScopeTree) (at : ℕ) (index : ExpressionTree) (lacks : Bool)
    → let m : WithFaults ValueTree = if lacks then sure no_vertex else value_of scope at index in
    let inner : List Form = if lacks then [] else Expression index ∷ [] in
    m.faults ≡ faults_of_all scope at inner ++ (if any_faulty scope at inner then [] else [])
index_own scope at index true = refl
index_own scope at index false = let m = value_of scope at index in one_own m.faults (is_error m.value || false)

pub rules_and_parts : (scope : ScopeTree) (at : ℕ) (form : Form) → form_faults scope at form ≡ faults_of_all scope at (parts scope form) ++ own_faults scope at form
rules_and_parts scope at (Expression (tree.LastConjunction c)) = let m = conjunction_value scope at c in one_own m.faults (is_error m.value || false)
rules_and_parts scope at (Expression (tree.ConjunctionThen c others)) =
    let x = conjunction_value scope at c in
    let left = first_condition x.value in
    let rest = disjuncts scope at left others in
    row_own at x.faults rest.faults (grouped_conditions at rest.value).faults (faults_of_all scope at (disjuncts_of others)) (is_error_row rest.value) (has_bools rest.value)
    (is_error x.value || any_faulty scope at (disjuncts_of others)) (is_bool x.value && all_bools scope at (disjuncts_of others))
    (disjuncts_faults scope at left others) (grouped_own at rest.value)
    (disjuncts_error scope at left others ∙ ap (λ b. b || any_faulty scope at (disjuncts_of others)) (first_row x.value))
    (disjuncts_bools scope at left others ∙ ap (λ b. b && all_bools scope at (disjuncts_of others)) (first_bool x.value))
rules_and_parts scope at (Conjunction (tree.LastComparison c)) = let m = comparison_value scope at c in one_own m.faults (is_error m.value || false)
rules_and_parts scope at (Conjunction (tree.ComparisonThen c others)) =
    let x = comparison_value scope at c in
    let left = first_condition x.value in
    let rest = conjuncts scope at left others in
    row_own at x.faults rest.faults (grouped_conditions at rest.value).faults (faults_of_all scope at (conjuncts_of others)) (is_error_row rest.value) (has_bools rest.value)
    (is_error x.value || any_faulty scope at (conjuncts_of others)) (is_bool x.value && all_bools scope at (conjuncts_of others))
    (conjuncts_faults scope at left others) (grouped_own at rest.value)
    (conjuncts_error scope at left others ∙ ap (λ b. b || any_faulty scope at (conjuncts_of others)) (first_row x.value))
    (conjuncts_bools scope at left others ∙ ap (λ b. b && all_bools scope at (conjuncts_of others)) (first_bool x.value))
rules_and_parts scope at (Comparison (tree.OneSum s)) = let m = sum_value scope at s in one_own m.faults (is_error m.value || false)
rules_and_parts scope at (Comparison (tree.TwoSums left relation right)) =
    let a = sum_value scope at left in
    let b = sum_value scope at right in
    parts_own a.faults b.faults _ _ (related_own at relation a.value b.value)
rules_and_parts scope at (Sum (tree.LastTerm t)) = let m = term_value scope at t in one_own m.faults (is_error m.value || false)
rules_and_parts scope at (Sum (tree.TermThen t o others)) =
    let x = term_value scope at t in
    let left = first_integer x.value in
    let rest = summands scope at left o others in
    row_own at x.faults rest.faults (grouped_integers at rest.value).faults (faults_of_all scope at (summands_of others)) (is_error_integers rest.value) (has_ints rest.value)
    (is_error x.value || any_faulty scope at (summands_of others)) (is_int x.value && all_ints scope at (summands_of others))
    (summands_faults scope at left o others) (grouped_integers_own at rest.value)
    (summands_error scope at left o others ∙ ap (λ b. b || any_faulty scope at (summands_of others)) (first_integers x.value))
    (summands_ints scope at left o others ∙ ap (λ b. b && all_ints scope at (summands_of others)) (first_int x.value))
rules_and_parts scope at (Term (tree.LastUnary u)) = let m = unary_value scope at u in one_own m.faults (is_error m.value || false)
rules_and_parts scope at (Term (tree.UnaryThen u o others)) =
    let x = unary_value scope at u in
    let left = first_integer x.value in
    let rest = factors scope at left o others in
    row_own at x.faults rest.faults (grouped_integers at rest.value).faults (faults_of_all scope at (factors_of others)) (is_error_integers rest.value) (has_ints rest.value)
    (is_error x.value || any_faulty scope at (factors_of others)) (is_int x.value && all_ints scope at (factors_of others))
    (factors_faults scope at left o others) (grouped_integers_own at rest.value)
    (factors_error scope at left o others ∙ ap (λ b. b || any_faulty scope at (factors_of others)) (first_integers x.value))
    (factors_ints scope at left o others ∙ ap (λ b. b && all_ints scope at (factors_of others)) (first_int x.value))
rules_and_parts scope at (Unary (tree.Bare e)) = let m = primary_value scope at e in one_own m.faults (is_error m.value || false)
rules_and_parts scope at (Unary (tree.Signed sign u)) =
    let x = unary_value scope at u in part_own x.faults _ _ (signed_own at sign x.value)
rules_and_parts scope at (Primary (tree.Literal n)) = refl
rules_and_parts scope at (Primary (tree.Truth b)) = refl
rules_and_parts scope at (Primary (tree.Variable name)) =
    let e = used_name scope name in part_own e.faults _ _ (named_own at e.value)
rules_and_parts scope at (Primary (tree.Entry vector index)) =
    let e = used_name scope vector in
    let v = index_value scope at index in
    parts_own e.faults v.faults _ _ (entry_own scope.inside at e.value v.value)
rules_and_parts scope at (Primary (tree.Size set)) =
    let e = used_name scope set in part_own e.faults _ _ (size_own at e.value)
rules_and_parts scope at (Primary (tree.Parentheses inner)) = let m = value_of scope at inner in one_own m.faults (is_error m.value || false)
rules_and_parts scope at (Index index) = index_own scope at index (index_lacks_value scope.inside scope index)
rules_and_parts scope at (Name name) = used_own name (found name.bytes scope.visible)
