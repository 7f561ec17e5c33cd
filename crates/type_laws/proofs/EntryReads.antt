-- An expression without a fault has no faulty part, and reads entries at such indexes as the place around it takes.
use Rattle.std.proofs.Common.{◌≡◌, ℕ, Bool, true, false, if◌then◌else◌, [], Option, Some, None}
use Rattle.syntax.specs.declared.operators.Addition.{Addition}
use Rattle.syntax.specs.declared.operators.Multiplication.{Multiplication}
use Rattle.syntax.specs.SourceTrees as tree
use Rattle.syntax.specs.SourceTrees.{ExpressionTree, ConjunctionTree, ComparisonTree, SumTree, TermTree, UnaryTree, PrimaryTree}
use Rattle.typed_tree.specs.declared.expression.Connective.TheVariants as connective
use Rattle.expression_types.specs.declared.scope.Inside.{Inside}
use Rattle.expression_types.specs.Expression.{comparison_value, conjunction_value, conjuncts, disjuncts, factors, index_as, index_lacks_value, index_value, no_vertex, primary_value, sum_value}
use Rattle.expression_types.specs.Expression.{summands, term_value, unary_value, used_name, value_of, vector_index}
use Rattle.expression_types.specs.Operators.{ConditionsTree, IntegersTree, addition_operator, beside_condition, beside_integer, entry_value, first_condition, first_integer, multiplied}
use Rattle.expression_types.specs.Faults.{WithFaults, sure}
use Rattle.expression_types.specs.ScopeTree.{ScopeTree}
use Rattle.expression_types.specs.ValueTree.{ValueTree}
use Rattle.type_laws.specs.EntryAccess.{ComparisonReadsAt, ConjunctionReadsAt, ExpressionReadsAt, PrimaryReadsAt, SumReadsAt, TermReadsAt, UnaryReadsAt}
use Rattle.type_laws.proofs.ClearValues.{ConditionsAreClear, IntegersAreClear, IsClear, IsThere, beside_condition_clear, beside_integer_clear, entry_clear, entry_parts, first_condition_clear}
use Rattle.type_laws.proofs.ClearValues.{first_integer_clear, grouped_conditions_clear, grouped_integers_clear, named_clear, related_clear, signed_clear, size_clear, vector_there}
use Rattle.type_laws.proofs.Faultless.{both_none, no_left, no_right}
use Rattle.type_laws.proofs.KnownScopes.{IsKnown, Vertices, used_known}

-- the names at an index are known, and an entry without a fault is read at such an index
pub record Reads (At : Vertices) (i : Inside) (Index : ExpressionTree → Type 0) (scope : ScopeTree) (at : ℕ) : Type 0 where
  pub known : IsKnown At i scope
  pub entry : (vector : ℕ) (index : ExpressionTree) → (index_value scope at index).faults ≡ [] → IsClear (index_value scope at index).value
      → (entry_value scope.inside at (Some vector) (index_value scope at index).value).faults ≡ [] → Index index

entry_index : {At : Vertices} {i : Inside} {Index : ExpressionTree → Type 0} (scope : ScopeTree) (at : ℕ) → Reads At i Index scope at → (index : Option ℕ) (subscript : ExpressionTree)
    → IsThere index → (index_value scope at subscript).faults ≡ [] → IsClear (index_value scope at subscript).value
    → (entry_value scope.inside at index (index_value scope at subscript).value).faults ≡ [] → Index subscript
entry_index scope at r None subscript there clear_index clear none = absurd there
entry_index scope at r (Some vector) subscript there clear_index clear none = r.entry vector subscript clear_index clear none

-- an index without a fault has no faulty part
if_clear : (value : WithFaults ValueTree) (lacks : Bool) → (value.faults ≡ [] → IsClear value.value) → (if lacks then sure no_vertex else value).faults ≡ []
    → IsClear (if lacks then sure no_vertex else value).value
if_clear value true clear none = tt
if_clear value false clear none = clear none

pub index_clear : (scope : ScopeTree) (index : ExpressionTree) (value : WithFaults ValueTree) → (value.faults ≡ [] → IsClear value.value) → (index_as scope index value).faults ≡ []
    → IsClear (index_as scope index value).value
index_clear scope index value clear none = if_clear value (index_lacks_value scope.inside scope index) clear none

mutual
  pub expression_reads : {At : Vertices} {i : Inside} {Index : ExpressionTree → Type 0} (scope : ScopeTree) (at : ℕ) → Reads At i Index scope at → (e : ExpressionTree)
      → (value_of scope at e).faults ≡ [] → ExpressionReadsAt Index e × IsClear (value_of scope at e).value
  expression_reads scope at r (tree.LastConjunction c) none = conjunction_reads scope at r c none
  expression_reads scope at r (tree.ConjunctionThen c others) none =
      let x = conjunction_value scope at c in
      let rest = disjuncts scope at (first_condition x.value) others in
      let behind = no_right x.faults _ none in
      let first = conjunction_reads scope at r c (no_left x.faults _ none) in
      let more = disjuncts_read scope at r (first_condition x.value) others (first_condition_clear x.value first.1) (no_left rest.faults _ behind) in
      ((first.0, more.0), grouped_conditions_clear at rest.value more.1 (no_right rest.faults _ behind))

  disjuncts_read : {At : Vertices} {i : Inside} {Index : ExpressionTree → Type 0} (scope : ScopeTree) (at : ℕ) → Reads At i Index scope at → (left : ConditionsTree) (e : ExpressionTree)
      → ConditionsAreClear left → (disjuncts scope at left e).faults ≡ [] → ExpressionReadsAt Index e × ConditionsAreClear (disjuncts scope at left e).value
  disjuncts_read scope at r left (tree.LastConjunction c) clear none =
      let x = conjunction_value scope at c in
      let first = conjunction_reads scope at r c (no_left x.faults [] none) in
      (first.0, beside_condition_clear connective.Or left (first_condition x.value) clear (first_condition_clear x.value first.1))
  disjuncts_read scope at r left (tree.ConjunctionThen c others) clear none =
      let x = conjunction_value scope at c in
      let first = conjunction_reads scope at r c (no_left x.faults _ none) in
      let both = beside_condition_clear connective.Or left (first_condition x.value) clear (first_condition_clear x.value first.1) in
      let more = disjuncts_read scope at r (beside_condition connective.Or left (first_condition x.value)) others both (no_right x.faults _ none) in
      ((first.0, more.0), more.1)

  conjunction_reads : {At : Vertices} {i : Inside} {Index : ExpressionTree → Type 0} (scope : ScopeTree) (at : ℕ) → Reads At i Index scope at → (c : ConjunctionTree)
      → (conjunction_value scope at c).faults ≡ [] → ConjunctionReadsAt Index c × IsClear (conjunction_value scope at c).value
  conjunction_reads scope at r (tree.LastComparison c) none = comparison_reads scope at r c none
  conjunction_reads scope at r (tree.ComparisonThen c others) none =
      let x = comparison_value scope at c in
      let rest = conjuncts scope at (first_condition x.value) others in
      let behind = no_right x.faults _ none in
      let first = comparison_reads scope at r c (no_left x.faults _ none) in
      let more = conjuncts_read scope at r (first_condition x.value) others (first_condition_clear x.value first.1) (no_left rest.faults _ behind) in
      ((first.0, more.0), grouped_conditions_clear at rest.value more.1 (no_right rest.faults _ behind))

  conjuncts_read : {At : Vertices} {i : Inside} {Index : ExpressionTree → Type 0} (scope : ScopeTree) (at : ℕ) → Reads At i Index scope at → (left : ConditionsTree) (c : ConjunctionTree)
      → ConditionsAreClear left → (conjuncts scope at left c).faults ≡ [] → ConjunctionReadsAt Index c × ConditionsAreClear (conjuncts scope at left c).value
  conjuncts_read scope at r left (tree.LastComparison c) clear none =
      let x = comparison_value scope at c in
      let first = comparison_reads scope at r c (no_left x.faults [] none) in
      (first.0, beside_condition_clear connective.And left (first_condition x.value) clear (first_condition_clear x.value first.1))
  conjuncts_read scope at r left (tree.ComparisonThen c others) clear none =
      let x = comparison_value scope at c in
      let first = comparison_reads scope at r c (no_left x.faults _ none) in
      let both = beside_condition_clear connective.And left (first_condition x.value) clear (first_condition_clear x.value first.1) in
      let more = conjuncts_read scope at r (beside_condition connective.And left (first_condition x.value)) others both (no_right x.faults _ none) in
      ((first.0, more.0), more.1)

  comparison_reads : {At : Vertices} {i : Inside} {Index : ExpressionTree → Type 0} (scope : ScopeTree) (at : ℕ) → Reads At i Index scope at → (c : ComparisonTree)
      → (comparison_value scope at c).faults ≡ [] → ComparisonReadsAt Index c × IsClear (comparison_value scope at c).value
  comparison_reads scope at r (tree.OneSum s) none = sum_reads scope at r s none
  comparison_reads scope at r (tree.TwoSums left relation right) none =
      let a = sum_value scope at left in
      let b = sum_value scope at right in
      let behind = no_right a.faults _ none in
      let first = sum_reads scope at r left (no_left a.faults _ none) in
      let second = sum_reads scope at r right (no_left b.faults _ behind) in
      ((first.0, second.0), related_clear at relation a.value b.value first.1 second.1 (no_right b.faults _ behind))

  sum_reads : {At : Vertices} {i : Inside} {Index : ExpressionTree → Type 0} (scope : ScopeTree) (at : ℕ) → Reads At i Index scope at → (s : SumTree)
      → (sum_value scope at s).faults ≡ [] → SumReadsAt Index s × IsClear (sum_value scope at s).value
  sum_reads scope at r (tree.LastTerm t) none = term_reads scope at r t none
  sum_reads scope at r (tree.TermThen t o others) none =
      let x = term_value scope at t in
      let rest = summands scope at (first_integer x.value) o others in
      let behind = no_right x.faults _ none in
      let first = term_reads scope at r t (no_left x.faults _ none) in
      let more = summands_read scope at r (first_integer x.value) o others (first_integer_clear x.value first.1) (no_left rest.faults _ behind) in
      ((first.0, more.0), grouped_integers_clear at rest.value more.1 (no_right rest.faults _ behind))

  summands_read : {At : Vertices} {i : Inside} {Index : ExpressionTree → Type 0} (scope : ScopeTree) (at : ℕ) → Reads At i Index scope at → (left : IntegersTree) (o : Addition) (s : SumTree)
      → IntegersAreClear left → (summands scope at left o s).faults ≡ [] → SumReadsAt Index s × IntegersAreClear (summands scope at left o s).value
  summands_read scope at r left o (tree.LastTerm t) clear none =
      let x = term_value scope at t in
      let first = term_reads scope at r t (no_left x.faults [] none) in
      (first.0, beside_integer_clear (addition_operator o) left (first_integer x.value) clear (first_integer_clear x.value first.1))
  summands_read scope at r left o (tree.TermThen t next others) clear none =
      let x = term_value scope at t in
      let first = term_reads scope at r t (no_left x.faults _ none) in
      let both = beside_integer_clear (addition_operator o) left (first_integer x.value) clear (first_integer_clear x.value first.1) in
      let more = summands_read scope at r (beside_integer (addition_operator o) left (first_integer x.value)) next others both (no_right x.faults _ none) in
      ((first.0, more.0), more.1)

  term_reads : {At : Vertices} {i : Inside} {Index : ExpressionTree → Type 0} (scope : ScopeTree) (at : ℕ) → Reads At i Index scope at → (t : TermTree)
      → (term_value scope at t).faults ≡ [] → TermReadsAt Index t × IsClear (term_value scope at t).value
  term_reads scope at r (tree.LastUnary u) none = unary_reads scope at r u none
  term_reads scope at r (tree.UnaryThen u o others) none =
      let x = unary_value scope at u in
      let rest = factors scope at (first_integer x.value) o others in
      let behind = no_right x.faults _ none in
      let first = unary_reads scope at r u (no_left x.faults _ none) in
      let more = factors_read scope at r (first_integer x.value) o others (first_integer_clear x.value first.1) (no_left rest.faults _ behind) in
      ((first.0, more.0), grouped_integers_clear at rest.value more.1 (no_right rest.faults _ behind))

  factors_read : {At : Vertices} {i : Inside} {Index : ExpressionTree → Type 0} (scope : ScopeTree) (at : ℕ) → Reads At i Index scope at → (left : IntegersTree) (o : Multiplication) (t : TermTree)
      → IntegersAreClear left → (factors scope at left o t).faults ≡ [] → TermReadsAt Index t × IntegersAreClear (factors scope at left o t).value
  factors_read scope at r left o (tree.LastUnary u) clear none =
      let x = unary_value scope at u in
      let first = unary_reads scope at r u (no_left x.faults [] none) in
      (first.0, beside_integer_clear (multiplied o) left (first_integer x.value) clear (first_integer_clear x.value first.1))
  factors_read scope at r left o (tree.UnaryThen u next others) clear none =
      let x = unary_value scope at u in
      let first = unary_reads scope at r u (no_left x.faults _ none) in
      let both = beside_integer_clear (multiplied o) left (first_integer x.value) clear (first_integer_clear x.value first.1) in
      let more = factors_read scope at r (beside_integer (multiplied o) left (first_integer x.value)) next others both (no_right x.faults _ none) in
      ((first.0, more.0), more.1)

  unary_reads : {At : Vertices} {i : Inside} {Index : ExpressionTree → Type 0} (scope : ScopeTree) (at : ℕ) → Reads At i Index scope at → (u : UnaryTree)
      → (unary_value scope at u).faults ≡ [] → UnaryReadsAt Index u × IsClear (unary_value scope at u).value
  unary_reads scope at r (tree.Bare e) none = primary_reads scope at r e none
  unary_reads scope at r (tree.Signed sign u) none =
      let x = unary_value scope at u in
      let first = unary_reads scope at r u (no_left x.faults _ none) in
      (first.0, signed_clear at sign x.value first.1 (no_right x.faults _ none))

  primary_reads : {At : Vertices} {i : Inside} {Index : ExpressionTree → Type 0} (scope : ScopeTree) (at : ℕ) → Reads At i Index scope at → (e : PrimaryTree)
      → (primary_value scope at e).faults ≡ [] → PrimaryReadsAt Index e × IsClear (primary_value scope at e).value
  primary_reads scope at r (tree.Literal n) none = (tt, tt)
  primary_reads scope at r (tree.Truth b) none = (tt, tt)
  primary_reads {At = At} {i = i} scope at r (tree.Variable name) none =
      let e = used_name scope name in
      (tt, named_clear At at name.bytes e.value (used_known At i scope name r.known (no_left e.faults _ none)) (no_right e.faults _ none))
  primary_reads {At = At} {i = i} scope at r (tree.Entry vector subscript) none =
      let e = used_name scope vector in
      let index = vector_index scope at vector in
      let v = index_value scope at subscript in
      let behind = no_right e.faults _ none in
      let sound = no_left v.faults _ behind in
      let clear = index_clear scope subscript (value_of scope at subscript) (λ none. (expression_reads scope at r subscript none).1) sound in
      let parts = entry_parts scope.inside at e.value v.value clear (no_right v.faults _ behind) in
      let there = vector_there At i scope at vector r.known (both_none e.faults _ (no_left e.faults _ none) parts.0) in (
        entry_index scope at r index.value subscript there sound clear parts.1,
        entry_clear scope.inside at index.value v.value there clear parts.1,
      )
  primary_reads {At = At} {i = i} scope at r (tree.Size set) none =
      let e = used_name scope set in
      (tt, size_clear At at set.bytes e.value (used_known At i scope set r.known (no_left e.faults _ none)) (no_right e.faults _ none))
  primary_reads scope at r (tree.Parentheses inside) none = expression_reads scope at r inside none
