-- A form with a faulty part has the faults of its parts and is faulty.
use Rattle.std.proofs.Common.{◌≡◌, refl, ap, sym, subst, ◌∙◌, ℕ, Bool, true, false, not, if◌then◌else◌, ◌||◌, List, [], ◌∷◌, ◌++◌, Option, Some, None}
use Rattle.std.proofs.lemmas.List.{append-nil}
use Rattle.syntax.specs.declared.operators.Addition.{Addition}
use Rattle.syntax.specs.declared.operators.Multiplication.{Multiplication}
use Rattle.syntax.specs.declared.operators.Prefix.{Prefix}
use Rattle.syntax.specs.declared.operators.Prefix.TheVariants as prefix
use Rattle.syntax.specs.declared.operators.Relation.{Relation}
use Rattle.syntax.specs.declared.operators.Relation.TheVariants as relation
use Rattle.syntax.specs.SourceTrees as source
use Rattle.syntax.specs.SourceTrees.{InitialTree, ExpressionTree, ConjunctionTree, ComparisonTree, SumTree, TermTree, UnaryTree, PrimaryTree}
use Rattle.syntax.specs.Terminals.{Identifier}
use Rattle.typed_tree.specs.declared.expression.ComparisonOperator.{ComparisonOperator}
use Rattle.typed_tree.specs.declared.expression.ComparisonOperator.TheVariants as comparison
use Rattle.typed_tree.specs.declared.expression.Connective.{Connective}
use Rattle.typed_tree.specs.declared.expression.Connective.TheVariants as connective
use Rattle.typed_tree.specs.declared.expression.Operator.{Operator}
use Rattle.expression_types.specs.declared.fault.Fault.{Fault}
use Rattle.expression_types.specs.declared.fault.TypeRule.TheVariants as rule
use Rattle.expression_types.specs.declared.scope.Entity.{Entity}
use Rattle.expression_types.specs.declared.scope.Entity.TheVariants as entity
use Rattle.expression_types.specs.declared.scope.Inside.{Inside}
use Rattle.expression_types.specs.declared.scope.Inside.TheVariants as inside
use Rattle.expression_types.specs.Expression.{as_size, as_vector, comparison_value, conjunction_value, conjuncts, disjuncts, entry_of, factors, index_lacks_value, index_value, no_vertex}
use Rattle.expression_types.specs.Expression.{primary_value, sum_value, summands, term_value, unary_value, used_name, value_of}
use Rattle.expression_types.specs.Operators.{ConditionsTree, Conditions, MixedConditions, ErrorConditions, IntegersTree, Integers, MixedIntegers, ErrorIntegers, addition_operator, beside_condition}
use Rattle.expression_types.specs.Operators.{beside_integer, compared_value, entry_value, equated_value, first_condition, first_integer, given_or_fault, grouped_conditions, grouped_integers}
use Rattle.expression_types.specs.Operators.{multiplied, related_value, signed_value}
use Rattle.expression_types.specs.ScopeTree.{ScopeTree}
use Rattle.expression_types.specs.ValueTree.{ValueTree, Integer, Condition, Vertex, Set, ErrorValue, is_error, named_value}
use Rattle.expression_types.specs.Faults.{WithFaults, sure}
use Rattle.initializer_types.specs.Checker.{CheckerTree}
use Rattle.initializer_types.specs.Initial.{ErrorInitializer, InitializerTree, apply_end_of, filter_named, initializer_of, is_error_end, is_sound, names_error}
use Rattle.type_laws.specs.SourceParts.{initial_forms, name_before}
use Rattle.type_laws.specs.ExpressionParts.{Form, Expression, Conjunction, Comparison, Sum, Term, Unary, Primary, Index, Name, any_faulty, conjuncts_of, disjuncts_of, factors_of, faults_of_all}
use Rattle.type_laws.specs.ExpressionParts.{form_faults, is_faulty, parts, summands_of}

-- tests
pub or_false : (a : Bool) → (a || false) ≡ a
or_false true = refl
or_false false = refl

or_assoc : (a b c : Bool) → ((a || b) || c) ≡ (a || (b || c))
or_assoc true b c = refl
or_assoc false b c = refl

-- a row of operands with a faulty one
abbrev pub is_error_row : ConditionsTree → Bool
is_error_row (Conditions c) = false
is_error_row MixedConditions = false
is_error_row ErrorConditions = true

abbrev pub is_error_integers : IntegersTree → Bool
is_error_integers (Integers e) = false
is_error_integers MixedIntegers = false
is_error_integers ErrorIntegers = true

pub first_row : (v : ValueTree) → is_error_row (first_condition v) ≡ is_error v
first_row (Integer e) = refl
first_row (Condition c) = refl
first_row (Vertex p) = refl
first_row (Set slot) = refl
first_row ErrorValue = refl

pub first_integers : (v : ValueTree) → is_error_integers (first_integer v) ≡ is_error v
first_integers (Integer e) = refl
first_integers (Condition c) = refl
first_integers (Vertex p) = refl
first_integers (Set slot) = refl
first_integers ErrorValue = refl

beside_row : (o : Connective) (a b : ConditionsTree) → is_error_row (beside_condition o a b) ≡ (is_error_row a || is_error_row b)
beside_row o (Conditions a) (Conditions b) = refl
beside_row o (Conditions a) MixedConditions = refl
beside_row o (Conditions a) ErrorConditions = refl
beside_row o MixedConditions (Conditions b) = refl
beside_row o MixedConditions MixedConditions = refl
beside_row o MixedConditions ErrorConditions = refl
beside_row o ErrorConditions b = refl

beside_integers : (o : Operator) (a b : IntegersTree) → is_error_integers (beside_integer o a b) ≡ (is_error_integers a || is_error_integers b)
beside_integers o (Integers a) (Integers b) = refl
beside_integers o (Integers a) MixedIntegers = refl
beside_integers o (Integers a) ErrorIntegers = refl
beside_integers o MixedIntegers (Integers b) = refl
beside_integers o MixedIntegers MixedIntegers = refl
beside_integers o MixedIntegers ErrorIntegers = refl
beside_integers o ErrorIntegers b = refl

pub beside_value : (o : Connective) (a : ConditionsTree) (v : ValueTree) → is_error_row (beside_condition o a (first_condition v)) ≡ (is_error_row a || is_error v)
beside_value o a v = beside_row o a (first_condition v) ∙ ap (λ b. is_error_row a || b) (first_row v)

pub beside_number : (o : Operator) (a : IntegersTree) (v : ValueTree) → is_error_integers (beside_integer o a (first_integer v)) ≡ (is_error_integers a || is_error v)
beside_number o a v = beside_integers o a (first_integer v) ∙ ap (λ b. is_error_integers a || b) (first_integers v)

-- a faulty part, and a value: it is faulty and has no fault of its own
abbrev pub IsSilent : WithFaults ValueTree → Type 0
IsSilent m = (m.faults ≡ []) × (is_error m.value ≡ true)

pub grouped_silent : (at : ℕ) (a : ConditionsTree) → is_error_row a ≡ true → IsSilent (grouped_conditions at a)
grouped_silent at (Conditions c) is = absurd cc
grouped_silent at MixedConditions is = absurd cc
grouped_silent at ErrorConditions is = (refl, refl)

pub grouped_integers_silent : (at : ℕ) (a : IntegersTree) → is_error_integers a ≡ true → IsSilent (grouped_integers at a)
grouped_integers_silent at (Integers e) is = absurd cc
grouped_integers_silent at MixedIntegers is = absurd cc
grouped_integers_silent at ErrorIntegers is = (refl, refl)

compared_silent : (o : ComparisonOperator) (a b : ValueTree) → (is_error a || is_error b) ≡ true → compared_value o a b ≡ Some ErrorValue
compared_silent o ErrorValue b is = refl
compared_silent o (Integer e) ErrorValue is = refl
compared_silent o (Condition c) ErrorValue is = refl
compared_silent o (Vertex p) ErrorValue is = refl
compared_silent o (Set slot) ErrorValue is = refl
compared_silent o (Integer e) (Integer x) is = absurd cc
compared_silent o (Integer e) (Condition x) is = absurd cc
compared_silent o (Integer e) (Vertex x) is = absurd cc
compared_silent o (Integer e) (Set x) is = absurd cc
compared_silent o (Condition c) (Integer x) is = absurd cc
compared_silent o (Condition c) (Condition x) is = absurd cc
compared_silent o (Condition c) (Vertex x) is = absurd cc
compared_silent o (Condition c) (Set x) is = absurd cc
compared_silent o (Vertex p) (Integer x) is = absurd cc
compared_silent o (Vertex p) (Condition x) is = absurd cc
compared_silent o (Vertex p) (Vertex x) is = absurd cc
compared_silent o (Vertex p) (Set x) is = absurd cc
compared_silent o (Set slot) (Integer x) is = absurd cc
compared_silent o (Set slot) (Condition x) is = absurd cc
compared_silent o (Set slot) (Vertex x) is = absurd cc
compared_silent o (Set slot) (Set x) is = absurd cc

equated_silent : (o : Connective) (p : ComparisonOperator) (a b : ValueTree) → (is_error a || is_error b) ≡ true → equated_value o p a b ≡ Some ErrorValue
equated_silent o p (Integer e) b is = compared_silent p (Integer e) b is
equated_silent o p (Condition c) (Integer x) is = absurd cc
equated_silent o p (Condition c) (Condition x) is = absurd cc
equated_silent o p (Condition c) (Vertex x) is = absurd cc
equated_silent o p (Condition c) (Set x) is = absurd cc
equated_silent o p (Condition c) ErrorValue is = refl
equated_silent o p (Vertex v) b is = compared_silent p (Vertex v) b is
equated_silent o p (Set slot) b is = compared_silent p (Set slot) b is
equated_silent o p ErrorValue b is = refl

pub related_silent : (r : Relation) (a b : ValueTree) → (is_error a || is_error b) ≡ true → related_value r a b ≡ Some ErrorValue
related_silent relation.Equal a b is = equated_silent connective.Equal comparison.Equal a b is
related_silent relation.NotEqual a b is = equated_silent connective.NotEqual comparison.NotEqual a b is
related_silent relation.Less a b is = compared_silent comparison.Less a b is
related_silent relation.LessOrEqual a b is = compared_silent comparison.LessOrEqual a b is
related_silent relation.Greater a b is = compared_silent comparison.Greater a b is
related_silent relation.GreaterOrEqual a b is = compared_silent comparison.GreaterOrEqual a b is

pub given_silent : (at : ℕ) (o : Option ValueTree) → o ≡ Some ErrorValue → IsSilent (given_or_fault at rule.WrongType o)
given_silent at o is = subst (λ o. IsSilent (given_or_fault at rule.WrongType o)) (sym is) (refl, refl)

pub signed_silent : (at : ℕ) (sign : Prefix) (v : ValueTree) → is_error v ≡ true → IsSilent (given_or_fault at rule.WrongType (signed_value sign v))
signed_silent at prefix.Minus ErrorValue is = (refl, refl)
signed_silent at prefix.Not ErrorValue is = (refl, refl)
signed_silent at sign (Integer e) is = absurd cc
signed_silent at sign (Condition c) is = absurd cc
signed_silent at sign (Vertex p) is = absurd cc
signed_silent at sign (Set slot) is = absurd cc

-- a name with a faulty declaration is nothing else
error_name : (e : Entity) → names_error e ≡ true → e ≡ entity.Error
error_name entity.Error is = refl
error_name _ is = absurd cc

pub named_silent : (at : ℕ) (e : Entity) → names_error e ≡ true → IsSilent (given_or_fault at rule.WrongType (named_value e))
named_silent at e is = subst (λ e. IsSilent (given_or_fault at rule.WrongType (named_value e))) (sym (error_name e is)) (refl, refl)

pub size_silent : (at : ℕ) (e : Entity) → names_error e ≡ true → IsSilent (as_size at e)
size_silent at e is = subst (λ e. IsSilent (as_size at e)) (sym (error_name e is)) (refl, refl)

no_entry : (i : Inside) (at : ℕ) (vector : Option ℕ) → entry_value i at vector ErrorValue ≡ sure ErrorValue
no_entry i at None = refl
no_entry inside.Main at (Some vector) = refl
no_entry inside.EdgeFunction at (Some vector) = refl
no_entry inside.VertexFunction at (Some vector) = refl
no_entry inside.Filter at (Some vector) = refl

entry_of_error : (i : Inside) (at : ℕ) (v : ValueTree) → IsSilent (entry_of i at entity.Error v)
entry_of_error i at (Integer e) = (refl, refl)
entry_of_error i at (Condition c) = (refl, refl)
entry_of_error i at (Vertex p) = (refl, refl)
entry_of_error i at (Set slot) = (refl, refl)
entry_of_error i at ErrorValue = (refl, refl)

pub entry_at_error : (i : Inside) (at : ℕ) (e : Entity) → IsSilent (entry_of i at e ErrorValue)
entry_at_error i at e = subst (λ (m : WithFaults ValueTree). IsSilent m) (sym (no_entry i at (as_vector at e).value)) (refl, refl)

entry_of_faulty : (i : Inside) (at : ℕ) (e : Entity) (v : ValueTree) → names_error e ≡ true → IsSilent (entry_of i at e v)
entry_of_faulty i at e v is = subst (λ e. IsSilent (entry_of i at e v)) (sym (error_name e is)) (entry_of_error i at v)

pub entry_silent : (i : Inside) (at : ℕ) (e : Entity) (v : ValueTree) → (names_error e || is_error v) ≡ true → IsSilent (entry_of i at e v)
entry_silent i at e ErrorValue is = entry_at_error i at e
entry_silent i at e (Integer x) is = entry_of_faulty i at e (Integer x) (sym (or_false (names_error e)) ∙ is)
entry_silent i at e (Condition c) is = entry_of_faulty i at e (Condition c) (sym (or_false (names_error e)) ∙ is)
entry_silent i at e (Vertex p) is = entry_of_faulty i at e (Vertex p) (sym (or_false (names_error e)) ∙ is)
entry_silent i at e (Set slot) is = entry_of_faulty i at e (Set slot) (sym (or_false (names_error e)) ∙ is)

-- rows of operands
pub disjuncts_faults : (scope : ScopeTree) (at : ℕ) (left : ConditionsTree) (e : ExpressionTree) → (disjuncts scope at left e).faults ≡ faults_of_all scope at (disjuncts_of e)
disjuncts_faults scope at left (source.LastConjunction c) = refl
disjuncts_faults scope at left (source.ConjunctionThen c others) =
    let x = conjunction_value scope at c in
    ap (λ fs. x.faults ++ fs) (disjuncts_faults scope at (beside_condition connective.Or left (first_condition x.value)) others)

pub disjuncts_error : (scope : ScopeTree) (at : ℕ) (left : ConditionsTree) (e : ExpressionTree)
    → is_error_row (disjuncts scope at left e).value ≡ (is_error_row left || any_faulty scope at (disjuncts_of e))
disjuncts_error scope at left (source.LastConjunction c) =
    let x = conjunction_value scope at c in
    beside_value connective.Or left x.value ∙ ap (λ b. is_error_row left || b) (sym (or_false (is_error x.value)))
disjuncts_error scope at left (source.ConjunctionThen c others) =
    let x = conjunction_value scope at c in
    let rest = any_faulty scope at (disjuncts_of others) in
    disjuncts_error scope at (beside_condition connective.Or left (first_condition x.value)) others
    ∙ ap (λ b. b || rest) (beside_value connective.Or left x.value) ∙ or_assoc (is_error_row left) (is_error x.value) rest

pub conjuncts_faults : (scope : ScopeTree) (at : ℕ) (left : ConditionsTree) (c : ConjunctionTree) → (conjuncts scope at left c).faults ≡ faults_of_all scope at (conjuncts_of c)
conjuncts_faults scope at left (source.LastComparison c) = refl
conjuncts_faults scope at left (source.ComparisonThen c others) =
    let x = comparison_value scope at c in
    ap (λ fs. x.faults ++ fs) (conjuncts_faults scope at (beside_condition connective.And left (first_condition x.value)) others)

pub conjuncts_error : (scope : ScopeTree) (at : ℕ) (left : ConditionsTree) (c : ConjunctionTree)
    → is_error_row (conjuncts scope at left c).value ≡ (is_error_row left || any_faulty scope at (conjuncts_of c))
conjuncts_error scope at left (source.LastComparison c) =
    let x = comparison_value scope at c in
    beside_value connective.And left x.value ∙ ap (λ b. is_error_row left || b) (sym (or_false (is_error x.value)))
conjuncts_error scope at left (source.ComparisonThen c others) =
    let x = comparison_value scope at c in
    let rest = any_faulty scope at (conjuncts_of others) in
    conjuncts_error scope at (beside_condition connective.And left (first_condition x.value)) others
    ∙ ap (λ b. b || rest) (beside_value connective.And left x.value) ∙ or_assoc (is_error_row left) (is_error x.value) rest

pub summands_faults : (scope : ScopeTree) (at : ℕ) (left : IntegersTree) (o : Addition) (s : SumTree) → (summands scope at left o s).faults ≡ faults_of_all scope at (summands_of s)
summands_faults scope at left o (source.LastTerm t) = refl
summands_faults scope at left o (source.TermThen t next others) =
    let x = term_value scope at t in
    ap (λ fs. x.faults ++ fs) (summands_faults scope at (beside_integer (addition_operator o) left (first_integer x.value)) next others)

pub summands_error : (scope : ScopeTree) (at : ℕ) (left : IntegersTree) (o : Addition) (s : SumTree)
    → is_error_integers (summands scope at left o s).value ≡ (is_error_integers left || any_faulty scope at (summands_of s))
summands_error scope at left o (source.LastTerm t) =
    let x = term_value scope at t in
    beside_number (addition_operator o) left x.value ∙ ap (λ b. is_error_integers left || b) (sym (or_false (is_error x.value)))
summands_error scope at left o (source.TermThen t next others) =
    let x = term_value scope at t in
    let rest = any_faulty scope at (summands_of others) in
    summands_error scope at (beside_integer (addition_operator o) left (first_integer x.value)) next others
    ∙ ap (λ b. b || rest) (beside_number (addition_operator o) left x.value) ∙ or_assoc (is_error_integers left) (is_error x.value) rest

pub factors_faults : (scope : ScopeTree) (at : ℕ) (left : IntegersTree) (o : Multiplication) (t : TermTree) → (factors scope at left o t).faults ≡ faults_of_all scope at (factors_of t)
factors_faults scope at left o (source.LastUnary u) = refl
factors_faults scope at left o (source.UnaryThen u next others) =
    let x = unary_value scope at u in
    ap (λ fs. x.faults ++ fs) (factors_faults scope at (beside_integer (multiplied o) left (first_integer x.value)) next others)

pub factors_error : (scope : ScopeTree) (at : ℕ) (left : IntegersTree) (o : Multiplication) (t : TermTree)
    → is_error_integers (factors scope at left o t).value ≡ (is_error_integers left || any_faulty scope at (factors_of t))
factors_error scope at left o (source.LastUnary u) =
    let x = unary_value scope at u in
    beside_number (multiplied o) left x.value ∙ ap (λ b. is_error_integers left || b) (sym (or_false (is_error x.value)))
factors_error scope at left o (source.UnaryThen u next others) =
    let x = unary_value scope at u in
    let rest = any_faulty scope at (factors_of others) in
    factors_error scope at (beside_integer (multiplied o) left (first_integer x.value)) next others
    ∙ ap (λ b. b || rest) (beside_number (multiplied o) left x.value) ∙ or_assoc (is_error_integers left) (is_error x.value) rest

-- the faults of a row whose whole has none of its own
row_faults : (first rest own all : List Fault) → rest ≡ all → own ≡ [] → first ++ (rest ++ own) ≡ first ++ all
row_faults first rest own all same none = ap (λ fs. first ++ fs) (ap (λ fs. rest ++ fs) none ∙ append-nil rest ∙ same)

-- a form that is its one part
one_part : (m : WithFaults ValueTree) → (is_error m.value || false) ≡ true → (m.faults ≡ m.faults ++ []) × (is_error m.value ≡ true)
one_part m is = (sym (append-nil m.faults), sym (or_false (is_error m.value)) ∙ is)

-- an index, which may have no part
index_part : (scope : ScopeTree) (at : ℕ) (index : ExpressionTree) (lacks : Bool) → any_faulty scope at (if lacks then [] else Expression index ∷ []) ≡ true
    → let m : WithFaults ValueTree = if lacks then sure no_vertex else value_of scope at index in
    (m.faults ≡ faults_of_all scope at (if lacks then [] else Expression index ∷ [])) × (is_error m.value ≡ true)
index_part scope at index true is = absurd cc
index_part scope at index false is = one_part (value_of scope at index) is

-- a form with a faulty part
abbrev AddsNone : ScopeTree → ℕ → Form → Type 0
AddsNone scope at form = (form_faults scope at form ≡ faults_of_all scope at (parts scope form)) × (is_faulty scope at form ≡ true)

pub faulty_parts : (scope : ScopeTree) (at : ℕ) (form : Form) → any_faulty scope at (parts scope form) ≡ true → AddsNone scope at form
faulty_parts scope at (Expression (source.LastConjunction c)) is = one_part (conjunction_value scope at c) is
faulty_parts scope at (Expression (source.ConjunctionThen c others)) is =
    let x = conjunction_value scope at c in
    let rest = disjuncts scope at (first_condition x.value) others in
    let silent = grouped_silent at rest.value (disjuncts_error scope at (first_condition x.value) others ∙ ap (λ b. b || any_faulty scope at (disjuncts_of others)) (first_row x.value) ∙ is) in
    (row_faults x.faults rest.faults _ _ (disjuncts_faults scope at (first_condition x.value) others) silent.0, silent.1)
faulty_parts scope at (Conjunction (source.LastComparison c)) is = one_part (comparison_value scope at c) is
faulty_parts scope at (Conjunction (source.ComparisonThen c others)) is =
    let x = comparison_value scope at c in
    let rest = conjuncts scope at (first_condition x.value) others in
    let silent = grouped_silent at rest.value (conjuncts_error scope at (first_condition x.value) others ∙ ap (λ b. b || any_faulty scope at (conjuncts_of others)) (first_row x.value) ∙ is) in
    (row_faults x.faults rest.faults _ _ (conjuncts_faults scope at (first_condition x.value) others) silent.0, silent.1)
faulty_parts scope at (Comparison (source.OneSum s)) is = one_part (sum_value scope at s) is
faulty_parts scope at (Comparison (source.TwoSums left r right)) is =
    let a = sum_value scope at left in
    let b = sum_value scope at right in
    let silent = given_silent at (related_value r a.value b.value)
    (related_silent r a.value b.value (ap (λ x. is_error a.value || x) (sym (or_false (is_error b.value))) ∙ is)) in
    (ap (λ fs. a.faults ++ (b.faults ++ fs)) silent.0, silent.1)
faulty_parts scope at (Sum (source.LastTerm t)) is = one_part (term_value scope at t) is
faulty_parts scope at (Sum (source.TermThen t o others)) is =
    let x = term_value scope at t in
    let rest = summands scope at (first_integer x.value) o others in
    let silent = grouped_integers_silent at rest.value (summands_error scope at (first_integer x.value) o others ∙ ap (λ b. b || any_faulty scope at (summands_of others)) (first_integers x.value)
    ∙ is) in
    (row_faults x.faults rest.faults _ _ (summands_faults scope at (first_integer x.value) o others) silent.0, silent.1)
faulty_parts scope at (Term (source.LastUnary u)) is = one_part (unary_value scope at u) is
faulty_parts scope at (Term (source.UnaryThen u o others)) is =
    let x = unary_value scope at u in
    let rest = factors scope at (first_integer x.value) o others in
    let silent = grouped_integers_silent at rest.value (factors_error scope at (first_integer x.value) o others ∙ ap (λ b. b || any_faulty scope at (factors_of others)) (first_integers x.value)
    ∙ is) in
    (row_faults x.faults rest.faults _ _ (factors_faults scope at (first_integer x.value) o others) silent.0, silent.1)
faulty_parts scope at (Unary (source.Bare e)) is = one_part (primary_value scope at e) is
faulty_parts scope at (Unary (source.Signed sign u)) is =
    let x = unary_value scope at u in
    let silent = signed_silent at sign x.value (sym (or_false (is_error x.value)) ∙ is) in
    (ap (λ fs. x.faults ++ fs) silent.0, silent.1)
faulty_parts scope at (Primary (source.Literal n)) is = absurd cc
faulty_parts scope at (Primary (source.Truth b)) is = absurd cc
faulty_parts scope at (Primary (source.Variable name)) is =
    let e = used_name scope name in
    let silent = named_silent at e.value (sym (or_false (names_error e.value)) ∙ is) in
    (ap (λ fs. e.faults ++ fs) silent.0, silent.1)
faulty_parts scope at (Primary (source.Entry vector index)) is =
    let e = used_name scope vector in
    let v = index_value scope at index in
    let silent = entry_silent scope.inside at e.value v.value (ap (λ x. names_error e.value || x) (sym (or_false (is_error v.value))) ∙ is) in
    (ap (λ fs. e.faults ++ (v.faults ++ fs)) silent.0, silent.1)
faulty_parts scope at (Primary (source.Size set)) is =
    let e = used_name scope set in
    let silent = size_silent at e.value (sym (or_false (names_error e.value)) ∙ is) in
    (ap (λ fs. e.faults ++ fs) silent.0, silent.1)
faulty_parts scope at (Primary (source.Parentheses inner)) is = one_part (value_of scope at inner) is
faulty_parts scope at (Index index) is = index_part scope at index (index_lacks_value scope.inside scope index) is
faulty_parts scope at (Name name) is = absurd cc

-- an initial value with a faulty form is not sound
if_error : (b : Bool) (m : WithFaults InitializerTree) → b ≡ true → is_sound (if b then sure ErrorInitializer else m).value ≡ false
if_error true m is = refl
if_error false m is = absurd cc

pub end_faulty : (scope : ScopeTree) (at : ℕ) (o : Option Identifier) (others : List Form) (b : Bool) → any_faulty scope at others ≡ b
    → any_faulty scope at (name_before o others) ≡ (is_error_end (apply_end_of scope o).value || b)
end_faulty scope at None others b is = is
end_faulty scope at (Some name) others b is = ap (λ x. names_error (used_name scope name).value || x) is ∙ ap (λ x. x || b) (named (used_name scope name).value)
  where
    named : (e : Entity) → names_error e ≡ is_error_end (filter_named e)
    named entity.Error = refl
    named _ = refl

pub or_left : (a b c d e : Bool) → (a || (b || (c || (d || (e || false))))) ≡ (a || b || c || d || e)
or_left true b c d e = refl
or_left false true c d e = refl
or_left false false true d e = refl
or_left false false false true e = refl
or_left false false false false true = refl
or_left false false false false false = refl

pub initial_not_sound : (c : CheckerTree) (at : ℕ) (x : InitialTree) → any_faulty c.scope at (initial_forms x) ≡ true → is_sound (initializer_of c at x).value ≡ false
initial_not_sound c at (source.NewSet size) is = absurd cc
initial_not_sound c at (source.Load argument) is = absurd cc
initial_not_sound c at (source.Vertices edges) is = let e = used_name c.scope edges in if_error (names_error e.value) _ (sym (or_false (names_error e.value)) ∙ is)
initial_not_sound c at (source.OutDegrees edges) is = let e = used_name c.scope edges in if_error (names_error e.value) _ (sym (or_false (names_error e.value)) ∙ is)
initial_not_sound c at (source.Filter set test) is =
    let s = used_name c.scope set in
    let f = used_name c.scope test in
    if_error (names_error s.value || names_error f.value) _ (ap (λ b. names_error s.value || b) (sym (or_false (names_error f.value))) ∙ is)
initial_not_sound c at (source.ApplyModified edges sides function vector) is =
    let e = used_name c.scope edges in
    let a = apply_end_of c.scope sides.from in
    let b = apply_end_of c.scope sides.to in
    let f = used_name c.scope function in
    let v = used_name c.scope vector in
    let forms = Name function ∷ Name vector ∷ [] in
    if_error (names_error e.value || is_error_end a.value || is_error_end b.value || names_error f.value || names_error v.value) _
    (sym (or_left (names_error e.value) (is_error_end a.value) (is_error_end b.value) (names_error f.value) (names_error v.value))
    ∙ ap (λ x. names_error e.value || x) (sym (end_faulty c.scope at sides.from (name_before sides.to forms) _ (end_faulty c.scope at sides.to forms _ refl))) ∙ is)
initial_not_sound c at (source.Value e) is =
    let v = value_of c.scope at e in ap not (sym (or_false (is_error v.value)) ∙ is)
