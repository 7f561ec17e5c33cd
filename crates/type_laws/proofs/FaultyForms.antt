-- A form with a fault is faulty.
use Rattle.std.proofs.Common.{◌≡◌, ◌≢◌, ◌⊎◌, inl, inr, refl, ap, ◌∙◌, ℕ, Bool, true, false, if◌then◌else◌, ◌||◌, List, [], Option, Some, None}
use Rattle.syntax.specs.declared.operators.Addition.{Addition}
use Rattle.syntax.specs.declared.operators.Multiplication.{Multiplication}
use Rattle.syntax.specs.Terminals.{Identifier}
use Rattle.syntax.specs.SourceTrees as tree
use Rattle.syntax.specs.SourceTrees.{ExpressionTree, ConjunctionTree, ComparisonTree, SumTree, TermTree, UnaryTree, PrimaryTree}
use Rattle.typed_tree.specs.declared.expression.Connective.{Connective}
use Rattle.typed_tree.specs.declared.expression.Connective.TheVariants as connective
use Rattle.typed_tree.specs.declared.expression.Operator.{Operator}
use Rattle.typed_tree.specs.declared.expression.VarRef.{VarRef}
use Rattle.typed_tree.specs.IntExpressionTree as integer
use Rattle.typed_tree.specs.IntExpressionTree.{IntExpressionTree}
use Rattle.expression_types.specs.declared.fault.Fault.{Fault}
use Rattle.expression_types.specs.declared.fault.TypeRule.TheVariants as rule
use Rattle.expression_types.specs.declared.scope.Entity.{Entity}
use Rattle.expression_types.specs.declared.scope.Entity.TheVariants as entity
use Rattle.expression_types.specs.declared.scope.Inside.{Inside}
use Rattle.expression_types.specs.declared.scope.Inside.TheVariants as inside
use Rattle.expression_types.specs.Expression.{as_size, as_vector, comparison_value, conjunction_value, conjuncts, disjuncts, entry_of, factors, index_lacks_value, index_value, no_vertex}
use Rattle.expression_types.specs.Expression.{primary_value, size_of, sum_value, summands, term_value, unary_value, used_name, used_as, value_of, vector_at}
use Rattle.expression_types.specs.ScopeTree.{found, ScopeTree}
use Rattle.expression_types.specs.Operators.{ConditionsTree, Conditions, MixedConditions, ErrorConditions, IntegersTree, Integers, MixedIntegers, ErrorIntegers, addition_operator, beside_condition}
use Rattle.expression_types.specs.Operators.{beside_integer, condition_index, entry_value, first_condition, first_integer, function_entry, given_or_fault, grouped_conditions, grouped_integers}
use Rattle.expression_types.specs.Operators.{main_entry, multiplied, related_value, signed_value}
use Rattle.expression_types.specs.ValueTree.{ValueTree, Integer, Condition, Vertex, Set, ErrorValue, condition_reads_entry, is_error, entity_set, named_value, named_vector, reads_entry}
use Rattle.expression_types.specs.Faults.{WithFaults, fault_at, sure, ◌>>=◌}
use Rattle.initializer_types.specs.Initial.{names_error}
use Rattle.type_laws.specs.ExpressionParts.{Form, Expression, Conjunction, Comparison, Sum, Term, Unary, Primary, Index, Name, any_faulty, conjuncts_of, disjuncts_of, factors_of, form_faults}
use Rattle.type_laws.specs.ExpressionParts.{is_faulty, summands_of}
use Rattle.type_laws.proofs.Faultless.{both_none}
use Rattle.type_laws.proofs.FaultyParts.{beside_number, beside_value, conjuncts_error, disjuncts_error, entry_at_error, entry_silent, factors_error, first_integers, first_row, given_silent}
use Rattle.type_laws.proofs.FaultyParts.{grouped_integers_silent, grouped_silent, is_error_integers, is_error_row, named_silent, related_silent, signed_silent, size_silent, summands_error}

-- it has no fault, or it is faulty
abbrev FaultyOrNone : {A : Type 0} → (A → Bool) → WithFaults A → Type 0
FaultyOrNone faulty m = (m.faults ≡ []) ⊎ (faulty m.value ≡ true)

-- one after the other
then_faulty : {A B : Type 0} (a : A → Bool) (b : B → Bool) (m : WithFaults A) (next : A → WithFaults B) → FaultyOrNone a m → (a m.value ≡ true → b (next m.value).value ≡ true)
    → FaultyOrNone b (next m.value) → FaultyOrNone b (m >>= next)
then_faulty a b m next (inr is) stays rest = inr (stays is)
then_faulty a b m next (inl none) stays (inr is) = inr is
then_faulty a b m next (inl none) stays (inl more) = inl (both_none m.faults _ none more)

or_true : (a : Bool) → (a || true) ≡ true
or_true true = refl
or_true false = refl

given_faulty : (at : ℕ) (o : Option ValueTree) → FaultyOrNone is_error (given_or_fault at rule.WrongType o)
given_faulty at None = inr refl
given_faulty at (Some v) = inl refl

grouped_faulty : (at : ℕ) (a : ConditionsTree) → FaultyOrNone is_error (grouped_conditions at a)
grouped_faulty at (Conditions c) = inl refl
grouped_faulty at MixedConditions = inr refl
grouped_faulty at ErrorConditions = inl refl

grouped_integers_faulty : (at : ℕ) (a : IntegersTree) → FaultyOrNone is_error (grouped_integers at a)
grouped_integers_faulty at (Integers e) = inl refl
grouped_integers_faulty at MixedIntegers = inr refl
grouped_integers_faulty at ErrorIntegers = inl refl

-- names
used_faulty : (name : Identifier) (o : Option Entity) → FaultyOrNone names_error (used_as name o)
used_faulty name None = inr refl
used_faulty name (Some e) = inl refl

name_faulty : (scope : ScopeTree) (name : Identifier) → FaultyOrNone names_error (used_name scope name)
name_faulty scope name = used_faulty name (found name.bytes scope.visible)

size_of_faulty : (at : ℕ) (o : Option VarRef) → FaultyOrNone is_error (size_of at o)
size_of_faulty at None = inr refl
size_of_faulty at (Some slot) = inl refl

size_faulty : (at : ℕ) (e : Entity) → FaultyOrNone is_error (as_size at e)
size_faulty at entity.Error = inl refl
size_faulty at e = size_of_faulty at (entity_set e)

-- entries
abbrev is_no_vector : Option ℕ → Bool
is_no_vector None = true
is_no_vector (Some vector) = false

vector_at_faulty : (at : ℕ) (o : Option ℕ) → FaultyOrNone is_no_vector (vector_at at o)
vector_at_faulty at None = inr refl
vector_at_faulty at (Some vector) = inl refl

vector_faulty : (at : ℕ) (e : Entity) → FaultyOrNone is_no_vector (as_vector at e)
vector_faulty at entity.Error = inl refl
vector_faulty at e = vector_at_faulty at (named_vector e)

no_vector_stays : (i : Inside) (at : ℕ) (o : Option ℕ) (v : ValueTree) → is_no_vector o ≡ true → is_error (entry_value i at o v).value ≡ true
no_vector_stays i at None v is = refl
no_vector_stays i at (Some vector) v is = absurd cc

if_faulty : (b : Bool) (at vector : ℕ) (e : IntExpressionTree) → FaultyOrNone is_error (if b then fault_at at rule.WrongIndex ErrorValue else sure (Integer (integer.Entry vector e)))
if_faulty true at vector e = inr refl
if_faulty false at vector e = inl refl

condition_faulty : (at : ℕ) (b : Bool) → FaultyOrNone is_error (condition_index at b)
condition_faulty at true = inr refl
condition_faulty at false = inr refl

main_entry_faulty : (at vector : ℕ) (v : ValueTree) → FaultyOrNone is_error (main_entry at vector v)
main_entry_faulty at vector (Integer e) = if_faulty (reads_entry e) at vector e
main_entry_faulty at vector (Condition c) = condition_faulty at (condition_reads_entry c)
main_entry_faulty at vector (Vertex p) = inl refl
main_entry_faulty at vector (Set slot) = inr refl
main_entry_faulty at vector ErrorValue = inl refl

function_entry_faulty : (at vector : ℕ) (v : ValueTree) → FaultyOrNone is_error (function_entry at vector v)
function_entry_faulty at vector (Integer e) = inr refl
function_entry_faulty at vector (Condition c) = inr refl
function_entry_faulty at vector (Vertex p) = inl refl
function_entry_faulty at vector (Set slot) = inr refl
function_entry_faulty at vector ErrorValue = inl refl

entry_faulty : (i : Inside) (at : ℕ) (o : Option ℕ) (v : ValueTree) → FaultyOrNone is_error (entry_value i at o v)
entry_faulty i at None v = inl refl
entry_faulty inside.Main at (Some vector) v = main_entry_faulty at vector v
entry_faulty inside.EdgeFunction at (Some vector) v = function_entry_faulty at vector v
entry_faulty inside.VertexFunction at (Some vector) v = function_entry_faulty at vector v
entry_faulty inside.Filter at (Some vector) v = function_entry_faulty at vector v

vector_entry_faulty : (i : Inside) (at : ℕ) (e : Entity) (v : ValueTree) → FaultyOrNone is_error (as_vector at e >>= λ vector. entry_value i at vector v)
vector_entry_faulty i at e v =
    then_faulty is_no_vector is_error (as_vector at e) (λ vector. entry_value i at vector v) (vector_faulty at e) (no_vector_stays i at (as_vector at e).value v)
    (entry_faulty i at (as_vector at e).value v)

entry_of_faulty : (i : Inside) (at : ℕ) (e : Entity) (v : ValueTree) → FaultyOrNone is_error (entry_of i at e v)
entry_of_faulty i at e (Integer x) = vector_entry_faulty i at e (Integer x)
entry_of_faulty i at e (Condition c) = vector_entry_faulty i at e (Condition c)
entry_of_faulty i at e (Vertex p) = vector_entry_faulty i at e (Vertex p)
entry_of_faulty i at e (Set slot) = vector_entry_faulty i at e (Set slot)
entry_of_faulty i at e ErrorValue = let silent = entry_at_error i at e in inr silent.1

-- a faulty operand makes its row faulty
beside_stays : (o : Connective) (left : ConditionsTree) (v : ValueTree) → is_error v ≡ true → is_error_row (beside_condition o left (first_condition v)) ≡ true
beside_stays o left v is = beside_value o left v ∙ ap (λ b. is_error_row left || b) is ∙ or_true (is_error_row left)

beside_number_stays : (o : Operator) (left : IntegersTree) (v : ValueTree) → is_error v ≡ true → is_error_integers (beside_integer o left (first_integer v)) ≡ true
beside_number_stays o left v is = beside_number o left v ∙ ap (λ b. is_error_integers left || b) is ∙ or_true (is_error_integers left)

disjuncts_stay : (scope : ScopeTree) (at : ℕ) (left : ConditionsTree) (e : ExpressionTree) → is_error_row left ≡ true → is_error_row (disjuncts scope at left e).value ≡ true
disjuncts_stay scope at left e is = disjuncts_error scope at left e ∙ ap (λ b. b || any_faulty scope at (disjuncts_of e)) is

conjuncts_stay : (scope : ScopeTree) (at : ℕ) (left : ConditionsTree) (c : ConjunctionTree) → is_error_row left ≡ true → is_error_row (conjuncts scope at left c).value ≡ true
conjuncts_stay scope at left c is = conjuncts_error scope at left c ∙ ap (λ b. b || any_faulty scope at (conjuncts_of c)) is

summands_stay : (scope : ScopeTree) (at : ℕ) (left : IntegersTree) (o : Addition) (s : SumTree) → is_error_integers left ≡ true → is_error_integers (summands scope at left o s).value ≡ true
summands_stay scope at left o s is = summands_error scope at left o s ∙ ap (λ b. b || any_faulty scope at (summands_of s)) is

factors_stay : (scope : ScopeTree) (at : ℕ) (left : IntegersTree) (o : Multiplication) (t : TermTree) → is_error_integers left ≡ true → is_error_integers (factors scope at left o t).value ≡ true
factors_stay scope at left o t is = factors_error scope at left o t ∙ ap (λ b. b || any_faulty scope at (factors_of t)) is

if_index_faulty : (b : Bool) (m : WithFaults ValueTree) → FaultyOrNone is_error m → FaultyOrNone is_error (if b then sure no_vertex else m)
if_index_faulty true m faulty = inl refl
if_index_faulty false m faulty = faulty

mutual
  value_faulty : (scope : ScopeTree) (at : ℕ) (e : ExpressionTree) → FaultyOrNone is_error (value_of scope at e)
  value_faulty scope at (tree.LastConjunction c) = conjunction_faulty scope at c
  value_faulty scope at (tree.ConjunctionThen c others) =
      let x = conjunction_value scope at c in
      let rest = disjuncts scope at (first_condition x.value) others in
      then_faulty is_error is_error x (λ v. disjuncts scope at (first_condition v) others >>= grouped_conditions at) (conjunction_faulty scope at c)
      (λ is. (grouped_silent at rest.value (disjuncts_stay scope at (first_condition x.value) others (first_row x.value ∙ is))).1)
      (then_faulty is_error_row is_error rest (grouped_conditions at) (disjuncts_faulty scope at (first_condition x.value) others) (λ is. (grouped_silent at rest.value is).1)
      (grouped_faulty at rest.value))

  disjuncts_faulty : (scope : ScopeTree) (at : ℕ) (left : ConditionsTree) (e : ExpressionTree) → FaultyOrNone is_error_row (disjuncts scope at left e)
  disjuncts_faulty scope at left (tree.LastConjunction c) =
      let x = conjunction_value scope at c in
      then_faulty is_error is_error_row x (λ v. sure (beside_condition connective.Or left (first_condition v))) (conjunction_faulty scope at c) (beside_stays connective.Or left x.value) (inl refl)
  disjuncts_faulty scope at left (tree.ConjunctionThen c others) =
      let x = conjunction_value scope at c in
      let next = beside_condition connective.Or left (first_condition x.value) in
      then_faulty is_error is_error_row x (λ v. disjuncts scope at (beside_condition connective.Or left (first_condition v)) others) (conjunction_faulty scope at c)
      (λ is. disjuncts_stay scope at next others (beside_stays connective.Or left x.value is)) (disjuncts_faulty scope at next others)

  conjunction_faulty : (scope : ScopeTree) (at : ℕ) (c : ConjunctionTree) → FaultyOrNone is_error (conjunction_value scope at c)
  conjunction_faulty scope at (tree.LastComparison c) = comparison_faulty scope at c
  conjunction_faulty scope at (tree.ComparisonThen c others) =
      let x = comparison_value scope at c in
      let rest = conjuncts scope at (first_condition x.value) others in
      then_faulty is_error is_error x (λ v. conjuncts scope at (first_condition v) others >>= grouped_conditions at) (comparison_faulty scope at c)
      (λ is. (grouped_silent at rest.value (conjuncts_stay scope at (first_condition x.value) others (first_row x.value ∙ is))).1)
      (then_faulty is_error_row is_error rest (grouped_conditions at) (conjuncts_faulty scope at (first_condition x.value) others) (λ is. (grouped_silent at rest.value is).1)
      (grouped_faulty at rest.value))

  conjuncts_faulty : (scope : ScopeTree) (at : ℕ) (left : ConditionsTree) (c : ConjunctionTree) → FaultyOrNone is_error_row (conjuncts scope at left c)
  conjuncts_faulty scope at left (tree.LastComparison c) =
      let x = comparison_value scope at c in
      then_faulty is_error is_error_row x (λ v. sure (beside_condition connective.And left (first_condition v))) (comparison_faulty scope at c) (beside_stays connective.And left x.value) (inl refl)
  conjuncts_faulty scope at left (tree.ComparisonThen c others) =
      let x = comparison_value scope at c in
      let next = beside_condition connective.And left (first_condition x.value) in
      then_faulty is_error is_error_row x (λ v. conjuncts scope at (beside_condition connective.And left (first_condition v)) others) (comparison_faulty scope at c)
      (λ is. conjuncts_stay scope at next others (beside_stays connective.And left x.value is)) (conjuncts_faulty scope at next others)

  comparison_faulty : (scope : ScopeTree) (at : ℕ) (c : ComparisonTree) → FaultyOrNone is_error (comparison_value scope at c)
  comparison_faulty scope at (tree.OneSum s) = sum_faulty scope at s
  comparison_faulty scope at (tree.TwoSums left relation right) =
      let a = sum_value scope at left in
      let b = sum_value scope at right in
      let related = related_value relation a.value b.value in
      then_faulty is_error is_error a (λ a. sum_value scope at right >>= λ b. given_or_fault at rule.WrongType (related_value relation a b)) (sum_faulty scope at left)
      (λ is. (given_silent at related (related_silent relation a.value b.value (ap (λ x. x || is_error b.value) is))).1)
      (then_faulty is_error is_error b (λ b. given_or_fault at rule.WrongType (related_value relation a.value b)) (sum_faulty scope at right)
      (λ is. (given_silent at related (related_silent relation a.value b.value (ap (λ x. is_error a.value || x) is ∙ or_true (is_error a.value)))).1) (given_faulty at related))

  sum_faulty : (scope : ScopeTree) (at : ℕ) (s : SumTree) → FaultyOrNone is_error (sum_value scope at s)
  sum_faulty scope at (tree.LastTerm t) = term_faulty scope at t
  sum_faulty scope at (tree.TermThen t o others) =
      let x = term_value scope at t in
      let rest = summands scope at (first_integer x.value) o others in
      then_faulty is_error is_error x (λ v. summands scope at (first_integer v) o others >>= grouped_integers at) (term_faulty scope at t)
      (λ is. (grouped_integers_silent at rest.value (summands_stay scope at (first_integer x.value) o others (first_integers x.value ∙ is))).1)
      (then_faulty is_error_integers is_error rest (grouped_integers at) (summands_faulty scope at (first_integer x.value) o others) (λ is. (grouped_integers_silent at rest.value is).1)
      (grouped_integers_faulty at rest.value))

  summands_faulty : (scope : ScopeTree) (at : ℕ) (left : IntegersTree) (o : Addition) (s : SumTree) → FaultyOrNone is_error_integers (summands scope at left o s)
  summands_faulty scope at left o (tree.LastTerm t) =
      let x = term_value scope at t in
      then_faulty is_error is_error_integers x (λ v. sure (beside_integer (addition_operator o) left (first_integer v))) (term_faulty scope at t)
      (beside_number_stays (addition_operator o) left x.value) (inl refl)
  summands_faulty scope at left o (tree.TermThen t p others) =
      let x = term_value scope at t in
      let next = beside_integer (addition_operator o) left (first_integer x.value) in
      then_faulty is_error is_error_integers x (λ v. summands scope at (beside_integer (addition_operator o) left (first_integer v)) p others) (term_faulty scope at t)
      (λ is. summands_stay scope at next p others (beside_number_stays (addition_operator o) left x.value is)) (summands_faulty scope at next p others)

  term_faulty : (scope : ScopeTree) (at : ℕ) (t : TermTree) → FaultyOrNone is_error (term_value scope at t)
  term_faulty scope at (tree.LastUnary u) = unary_faulty scope at u
  term_faulty scope at (tree.UnaryThen u o others) =
      let x = unary_value scope at u in
      let rest = factors scope at (first_integer x.value) o others in
      then_faulty is_error is_error x (λ v. factors scope at (first_integer v) o others >>= grouped_integers at) (unary_faulty scope at u)
      (λ is. (grouped_integers_silent at rest.value (factors_stay scope at (first_integer x.value) o others (first_integers x.value ∙ is))).1)
      (then_faulty is_error_integers is_error rest (grouped_integers at) (factors_faulty scope at (first_integer x.value) o others) (λ is. (grouped_integers_silent at rest.value is).1)
      (grouped_integers_faulty at rest.value))

  factors_faulty : (scope : ScopeTree) (at : ℕ) (left : IntegersTree) (o : Multiplication) (t : TermTree) → FaultyOrNone is_error_integers (factors scope at left o t)
  factors_faulty scope at left o (tree.LastUnary u) =
      let x = unary_value scope at u in
      then_faulty is_error is_error_integers x (λ v. sure (beside_integer (multiplied o) left (first_integer v))) (unary_faulty scope at u) (beside_number_stays (multiplied o) left x.value) (inl refl)
  factors_faulty scope at left o (tree.UnaryThen u p others) =
      let x = unary_value scope at u in
      let next = beside_integer (multiplied o) left (first_integer x.value) in
      then_faulty is_error is_error_integers x (λ v. factors scope at (beside_integer (multiplied o) left (first_integer v)) p others) (unary_faulty scope at u)
      (λ is. factors_stay scope at next p others (beside_number_stays (multiplied o) left x.value is)) (factors_faulty scope at next p others)

  unary_faulty : (scope : ScopeTree) (at : ℕ) (u : UnaryTree) → FaultyOrNone is_error (unary_value scope at u)
  unary_faulty scope at (tree.Bare e) = primary_faulty scope at e
  unary_faulty scope at (tree.Signed sign u) =
      let x = unary_value scope at u in
      then_faulty is_error is_error x (λ v. given_or_fault at rule.WrongType (signed_value sign v)) (unary_faulty scope at u) (λ is. (signed_silent at sign x.value is).1)
      (given_faulty at (signed_value sign x.value))

  primary_faulty : (scope : ScopeTree) (at : ℕ) (e : PrimaryTree) → FaultyOrNone is_error (primary_value scope at e)
  primary_faulty scope at (tree.Literal n) = inl refl
  primary_faulty scope at (tree.Truth b) = inl refl
  primary_faulty scope at (tree.Variable name) =
      let e = used_name scope name in
      then_faulty names_error is_error e (λ e. given_or_fault at rule.WrongType (named_value e)) (name_faulty scope name) (λ is. (named_silent at e.value is).1) (given_faulty at (named_value e.value))
  primary_faulty scope at (tree.Entry vector index) =
      let e = used_name scope vector in
      let v = index_value scope at index in
      then_faulty names_error is_error e (λ e. index_value scope at index >>= λ v. entry_of scope.inside at e v) (name_faulty scope vector)
      (λ is. (entry_silent scope.inside at e.value v.value (ap (λ x. x || is_error v.value) is)).1)
      (then_faulty is_error is_error v (λ v. entry_of scope.inside at e.value v) (if_index_faulty (index_lacks_value scope.inside scope index) (value_of scope at index) (value_faulty scope at index))
      (λ is. (entry_silent scope.inside at e.value v.value (ap (λ x. names_error e.value || x) is ∙ or_true (names_error e.value))).1)
      (entry_of_faulty scope.inside at e.value v.value))
  primary_faulty scope at (tree.Size set) =
      let e = used_name scope set in
      then_faulty names_error is_error e (as_size at) (name_faulty scope set) (λ is. (size_silent at e.value is).1) (size_faulty at e.value)
  primary_faulty scope at (tree.Parentheses inner) = value_faulty scope at inner

index_faulty : (scope : ScopeTree) (at : ℕ) (index : ExpressionTree) → FaultyOrNone is_error (index_value scope at index)
index_faulty scope at index = if_index_faulty (index_lacks_value scope.inside scope index) (value_of scope at index) (value_faulty scope at index)

if_any : (faults : List Fault) (b : Bool) → (faults ≡ []) ⊎ (b ≡ true) → faults ≢ [] → b ≡ true
if_any faults b (inl none) some = absurd (some none)
if_any faults b (inr is) some = is

form_faulty : (scope : ScopeTree) (at : ℕ) (form : Form) → (form_faults scope at form ≡ []) ⊎ (is_faulty scope at form ≡ true)
form_faulty scope at (Expression e) = value_faulty scope at e
form_faulty scope at (Conjunction c) = conjunction_faulty scope at c
form_faulty scope at (Comparison c) = comparison_faulty scope at c
form_faulty scope at (Sum s) = sum_faulty scope at s
form_faulty scope at (Term t) = term_faulty scope at t
form_faulty scope at (Unary u) = unary_faulty scope at u
form_faulty scope at (Primary e) = primary_faulty scope at e
form_faulty scope at (Index index) = index_faulty scope at index
form_faulty scope at (Name name) = name_faulty scope name

pub faulty_with_faults : (scope : ScopeTree) (at : ℕ) (form : Form) → form_faults scope at form ≢ [] → is_faulty scope at form ≡ true
faulty_with_faults scope at form some = if_any (form_faults scope at form) (is_faulty scope at form) (form_faulty scope at form) some
