-- Each fault of an expression stands at one of its names, or where its statement does.
use Rattle.std.proofs.Common.{ℕ, Bool, true, false, if◌then◌else◌, List, [], ◌∷◌, ◌++◌, Option, Some, None}
use Rattle.std.specs.List.{AllByRecursion}
use Rattle.syntax.specs.declared.operators.Addition.{Addition}
use Rattle.syntax.specs.declared.operators.Multiplication.{Multiplication}
use Rattle.syntax.specs.Terminals.{Terminal, Identifier}
use Rattle.syntax.specs.Offsets.{StandWhere, StandsWhere}
use Rattle.syntax.specs.SourceTrees as tree
use Rattle.syntax.specs.SourceTrees.{ExpressionTree, ConjunctionTree, ComparisonTree, SumTree, TermTree, UnaryTree, PrimaryTree}
use Rattle.syntax.specs.ExpressionSpelling.{comparison_terminals, conjunction_terminals, expression_terminals, primary_terminals, sum_terminals, term_terminals, unary_terminals}
use Rattle.syntax.proofs.Behind.{all_both, all_left, all_right}
use Rattle.typed_tree.specs.declared.expression.VarRef.{VarRef}
use Rattle.typed_tree.specs.IntExpressionTree as integer
use Rattle.typed_tree.specs.IntExpressionTree.{IntExpressionTree}
use Rattle.expression_types.specs.declared.fault.Fault.{Fault}
use Rattle.expression_types.specs.declared.fault.TypeRule.{TypeRule}
use Rattle.expression_types.specs.declared.fault.TypeRule.TheVariants as rule
use Rattle.expression_types.specs.declared.scope.Entity.{Entity}
use Rattle.expression_types.specs.declared.scope.Entity.TheVariants as entity
use Rattle.expression_types.specs.declared.scope.Inside.{Inside}
use Rattle.expression_types.specs.declared.scope.Inside.TheVariants as inside
use Rattle.expression_types.specs.Expression.{as_size, as_vector, comparison_value, conjunction_value, conjuncts, disjuncts, entry_of, factors, index_as, index_lacks_value, index_value, name_value}
use Rattle.expression_types.specs.Expression.{no_vertex, primary_value, size_of, size_value, sum_value, summands, term_value, unary_value, used_name, used_as, value_of, vector_at, vector_index}
use Rattle.expression_types.specs.ScopeTree.{found, ScopeTree, declared, declared_over}
use Rattle.expression_types.specs.Faults.{WithFaults, fault_at, sure}
use Rattle.expression_types.specs.Operators.{IntegersTree, Integers, MixedIntegers, ErrorIntegers, ConditionsTree, Conditions, MixedConditions, ErrorConditions, condition_index, entry_value}
use Rattle.expression_types.specs.Operators.{first_condition, first_integer, function_entry, given_or_fault, grouped_conditions, grouped_integers, integer_index, main_entry, related_value}
use Rattle.expression_types.specs.Operators.{signed_value, unless_faulty}
use Rattle.expression_types.specs.ValueTree.{ValueTree, Integer, Condition, Vertex, Set, ErrorValue, condition_reads_entry, is_error, entity_set, named_value, named_vector, reads_entry}

-- P holds of the offset of each fault
abbrev pub FaultsStand : {A : Type 0} → (ℕ → Type 0) → WithFaults A → Type 0
FaultsStand P m = AllByRecursion (λ f. P f.at) m.faults

pub both_stand : (P : ℕ → Type 0) (fs gs : List Fault) → AllByRecursion (λ f. P f.at) fs → AllByRecursion (λ f. P f.at) gs → AllByRecursion (λ f. P f.at) (fs ++ gs)
both_stand P fs gs first second = all_both (λ f. P f.at) fs gs first second

pub if_stand : {A : Type 0} (P : ℕ → Type 0) (b : Bool) (x y : WithFaults A) → FaultsStand P x → FaultsStand P y → FaultsStand P (if b then x else y)
if_stand P true x y first second = first
if_stand P false x y first second = second

-- names
used_as_stands : (P : ℕ → Type 0) (name : Identifier) (o : Option Entity) → P name.at → FaultsStand P (used_as name o)
used_as_stands P name None there = (there, tt)
used_as_stands P name (Some e) there = tt

pub used_stands : (P : ℕ → Type 0) (scope : ScopeTree) (name : Identifier) → P name.at → FaultsStand P (used_name scope name)
used_stands P scope name there = used_as_stands P name (found name.bytes scope.visible) there

declared_over_stands : (P : ℕ → Type 0) (o : Option Entity) (name : Identifier) (e : Entity) (scope : ScopeTree) → P name.at → FaultsStand P (declared_over o name e scope)
declared_over_stands P None name e scope there = tt
declared_over_stands P (Some old) name e scope there = (there, tt)

pub declared_stands : (P : ℕ → Type 0) (name : Identifier) (e : Entity) (scope : ScopeTree) → P name.at → FaultsStand P (declared name e scope)
declared_stands P name e scope there = declared_over_stands P (found name.bytes scope.visible) name e scope there

-- values
given_stands : (P : ℕ → Type 0) (at : ℕ) (rule : TypeRule) (o : Option ValueTree) → P at → FaultsStand P (given_or_fault at rule o)
given_stands P at rule None here = (here, tt)
given_stands P at rule (Some v) here = tt

integers_stand : (P : ℕ → Type 0) (at : ℕ) (x : IntegersTree) → P at → FaultsStand P (grouped_integers at x)
integers_stand P at (Integers e) here = tt
integers_stand P at MixedIntegers here = (here, tt)
integers_stand P at ErrorIntegers here = tt

conditions_stand : (P : ℕ → Type 0) (at : ℕ) (x : ConditionsTree) → P at → FaultsStand P (grouped_conditions at x)
conditions_stand P at (Conditions c) here = tt
conditions_stand P at MixedConditions here = (here, tt)
conditions_stand P at ErrorConditions here = tt

name_stands : (P : ℕ → Type 0) (scope : ScopeTree) (at : ℕ) (name : Identifier) → P at → P name.at → FaultsStand P (name_value scope at name)
name_stands P scope at name here there =
    let e = used_name scope name in both_stand P e.faults _ (used_stands P scope name there) (given_stands P at rule.WrongType (named_value e.value) here)

vector_at_stands : (P : ℕ → Type 0) (at : ℕ) (o : Option ℕ) → P at → FaultsStand P (vector_at at o)
vector_at_stands P at None here = (here, tt)
vector_at_stands P at (Some index) here = tt

as_vector_stands : (P : ℕ → Type 0) (at : ℕ) (e : Entity) → P at → FaultsStand P (as_vector at e)
as_vector_stands P at entity.Error here = tt
as_vector_stands P at e here = vector_at_stands P at (named_vector e) here

pub vector_stands : (P : ℕ → Type 0) (scope : ScopeTree) (at : ℕ) (name : Identifier) → P at → P name.at → FaultsStand P (vector_index scope at name)
vector_stands P scope at name here there =
    let e = used_name scope name in both_stand P e.faults _ (used_stands P scope name there) (as_vector_stands P at e.value here)

size_of_stands : (P : ℕ → Type 0) (at : ℕ) (o : Option VarRef) → P at → FaultsStand P (size_of at o)
size_of_stands P at None here = (here, tt)
size_of_stands P at (Some slot) here = tt

as_size_stands : (P : ℕ → Type 0) (at : ℕ) (e : Entity) → P at → FaultsStand P (as_size at e)
as_size_stands P at entity.Error here = tt
as_size_stands P at e here = size_of_stands P at (entity_set e) here

size_stands : (P : ℕ → Type 0) (scope : ScopeTree) (at : ℕ) (name : Identifier) → P at → P name.at → FaultsStand P (size_value scope at name)
size_stands P scope at name here there =
    let e = used_name scope name in both_stand P e.faults _ (used_stands P scope name there) (as_size_stands P at e.value here)

-- entries
integer_index_stands : (P : ℕ → Type 0) (at vector : ℕ) (e : IntExpressionTree) → P at → FaultsStand P (integer_index at vector e)
integer_index_stands P at vector e here =
    if_stand P (reads_entry e) (fault_at at rule.WrongIndex ErrorValue) (sure (Integer (integer.Entry vector e))) (here, tt) tt

condition_index_stands : (P : ℕ → Type 0) (at : ℕ) (b : Bool) → P at → FaultsStand P (condition_index at b)
condition_index_stands P at true here = (here, (here, tt))
condition_index_stands P at false here = (here, tt)

main_entry_stands : (P : ℕ → Type 0) (at vector : ℕ) (v : ValueTree) → P at → FaultsStand P (main_entry at vector v)
main_entry_stands P at vector (Integer e) here = integer_index_stands P at vector e here
main_entry_stands P at vector (Condition c) here = condition_index_stands P at (condition_reads_entry c) here
main_entry_stands P at vector (Vertex p) here = integer_index_stands P at vector (integer.Parameter p) here
main_entry_stands P at vector (Set slot) here = (here, tt)
main_entry_stands P at vector ErrorValue here = tt

function_entry_stands : (P : ℕ → Type 0) (at vector : ℕ) (v : ValueTree) → P at → FaultsStand P (function_entry at vector v)
function_entry_stands P at vector (Integer e) here = (here, tt)
function_entry_stands P at vector (Condition c) here = (here, tt)
function_entry_stands P at vector (Vertex p) here = tt
function_entry_stands P at vector (Set slot) here = (here, tt)
function_entry_stands P at vector ErrorValue here = tt

entry_stands : (P : ℕ → Type 0) (where_it_is : Inside) (at : ℕ) (vector : Option ℕ) (v : ValueTree) → P at → FaultsStand P (entry_value where_it_is at vector v)
entry_stands P where_it_is at None v here = tt
entry_stands P inside.Main at (Some vector) v here = main_entry_stands P at vector v here
entry_stands P inside.EdgeFunction at (Some vector) v here = function_entry_stands P at vector v here
entry_stands P inside.VertexFunction at (Some vector) v here = function_entry_stands P at vector v here
entry_stands P inside.Filter at (Some vector) v here = function_entry_stands P at vector v here

unless_faulty_stands : {A : Type 0} (P : ℕ → Type 0) (faulty : Bool) (m : WithFaults A) → FaultsStand P m → FaultsStand P (unless_faulty faulty m)
unless_faulty_stands P true m stand = tt
unless_faulty_stands P false m stand = stand

entry_of_stands : (P : ℕ → Type 0) (where_it_is : Inside) (at : ℕ) (e : Entity) (v : ValueTree) → P at → FaultsStand P (entry_of where_it_is at e v)
entry_of_stands P where_it_is at e v here =
    let vector = unless_faulty (is_error v) (as_vector at e) in
    both_stand P vector.faults _ (unless_faulty_stands P (is_error v) (as_vector at e) (as_vector_stands P at e here))
    (entry_stands P where_it_is at vector.value v here)

pub index_stands : (P : ℕ → Type 0) (scope : ScopeTree) (index : ExpressionTree) (value : WithFaults ValueTree) → FaultsStand P value → FaultsStand P (index_as scope index value)
index_stands P scope index value stand = if_stand P (index_lacks_value scope.inside scope index) (sure no_vertex) value tt stand

-- before and after an operator
before : (P : ℕ → Type 0) (xs : List Terminal) (w : Terminal) (ys : List Terminal) → StandWhere P (xs ++ w ∷ ys) → StandWhere P xs
before P xs w ys all = all_left (StandsWhere P) xs (w ∷ ys) all

behind : (P : ℕ → Type 0) (xs : List Terminal) (w : Terminal) (ys : List Terminal) → StandWhere P (xs ++ w ∷ ys) → StandWhere P ys
behind P xs w ys all = let both = all_right (StandsWhere P) xs (w ∷ ys) all in both.1

mutual
  pub value_stands : (P : ℕ → Type 0) (scope : ScopeTree) (at : ℕ) (e : ExpressionTree) → P at → StandWhere P (expression_terminals e) → FaultsStand P (value_of scope at e)
  value_stands P scope at (tree.LastConjunction c) here all = conjunction_stands P scope at c here all
  value_stands P scope at (tree.ConjunctionThen c others) here all =
      let x = conjunction_value scope at c in
      let rest = disjuncts scope at (first_condition x.value) others in
      both_stand P x.faults _ (conjunction_stands P scope at c here (before P (conjunction_terminals c) _ _ all))
      (both_stand P rest.faults _ (disjuncts_stand P scope at (first_condition x.value) others here (behind P (conjunction_terminals c) _ _ all))
      (conditions_stand P at rest.value here))

  disjuncts_stand : (P : ℕ → Type 0) (scope : ScopeTree) (at : ℕ) (left : ConditionsTree) (e : ExpressionTree) → P at → StandWhere P (expression_terminals e)
      → FaultsStand P (disjuncts scope at left e)
  disjuncts_stand P scope at left (tree.LastConjunction c) here all =
      let x = conjunction_value scope at c in both_stand P x.faults [] (conjunction_stands P scope at c here all) tt
  disjuncts_stand P scope at left (tree.ConjunctionThen c others) here all =
      let x = conjunction_value scope at c in
      both_stand P x.faults _ (conjunction_stands P scope at c here (before P (conjunction_terminals c) _ _ all))
      (disjuncts_stand P scope at _ others here (behind P (conjunction_terminals c) _ _ all))

  conjunction_stands : (P : ℕ → Type 0) (scope : ScopeTree) (at : ℕ) (c : ConjunctionTree) → P at → StandWhere P (conjunction_terminals c)
      → FaultsStand P (conjunction_value scope at c)
  conjunction_stands P scope at (tree.LastComparison c) here all = comparison_stands P scope at c here all
  conjunction_stands P scope at (tree.ComparisonThen c others) here all =
      let x = comparison_value scope at c in
      let rest = conjuncts scope at (first_condition x.value) others in
      both_stand P x.faults _ (comparison_stands P scope at c here (before P (comparison_terminals c) _ _ all))
      (both_stand P rest.faults _ (conjuncts_stand P scope at (first_condition x.value) others here (behind P (comparison_terminals c) _ _ all))
      (conditions_stand P at rest.value here))

  conjuncts_stand : (P : ℕ → Type 0) (scope : ScopeTree) (at : ℕ) (left : ConditionsTree) (c : ConjunctionTree) → P at → StandWhere P (conjunction_terminals c)
      → FaultsStand P (conjuncts scope at left c)
  conjuncts_stand P scope at left (tree.LastComparison c) here all =
      let x = comparison_value scope at c in both_stand P x.faults [] (comparison_stands P scope at c here all) tt
  conjuncts_stand P scope at left (tree.ComparisonThen c others) here all =
      let x = comparison_value scope at c in
      both_stand P x.faults _ (comparison_stands P scope at c here (before P (comparison_terminals c) _ _ all))
      (conjuncts_stand P scope at _ others here (behind P (comparison_terminals c) _ _ all))

  comparison_stands : (P : ℕ → Type 0) (scope : ScopeTree) (at : ℕ) (c : ComparisonTree) → P at → StandWhere P (comparison_terminals c)
      → FaultsStand P (comparison_value scope at c)
  comparison_stands P scope at (tree.OneSum s) here all = sum_stands P scope at s here all
  comparison_stands P scope at (tree.TwoSums left relation right) here all =
      let a = sum_value scope at left in
      let b = sum_value scope at right in
      both_stand P a.faults _ (sum_stands P scope at left here (before P (sum_terminals left) _ _ all))
      (both_stand P b.faults _ (sum_stands P scope at right here (behind P (sum_terminals left) _ _ all))
      (given_stands P at rule.WrongType (related_value relation a.value b.value) here))

  sum_stands : (P : ℕ → Type 0) (scope : ScopeTree) (at : ℕ) (s : SumTree) → P at → StandWhere P (sum_terminals s) → FaultsStand P (sum_value scope at s)
  sum_stands P scope at (tree.LastTerm t) here all = term_stands P scope at t here all
  sum_stands P scope at (tree.TermThen t o others) here all =
      let x = term_value scope at t in
      let rest = summands scope at (first_integer x.value) o others in
      both_stand P x.faults _ (term_stands P scope at t here (before P (term_terminals t) _ _ all))
      (both_stand P rest.faults _ (summands_stand P scope at (first_integer x.value) o others here (behind P (term_terminals t) _ _ all))
      (integers_stand P at rest.value here))

  summands_stand : (P : ℕ → Type 0) (scope : ScopeTree) (at : ℕ) (left : IntegersTree) (o : Addition) (s : SumTree) → P at → StandWhere P (sum_terminals s)
      → FaultsStand P (summands scope at left o s)
  summands_stand P scope at left o (tree.LastTerm t) here all =
      let x = term_value scope at t in both_stand P x.faults [] (term_stands P scope at t here all) tt
  summands_stand P scope at left o (tree.TermThen t next others) here all =
      let x = term_value scope at t in
      both_stand P x.faults _ (term_stands P scope at t here (before P (term_terminals t) _ _ all))
      (summands_stand P scope at _ next others here (behind P (term_terminals t) _ _ all))

  term_stands : (P : ℕ → Type 0) (scope : ScopeTree) (at : ℕ) (t : TermTree) → P at → StandWhere P (term_terminals t) → FaultsStand P (term_value scope at t)
  term_stands P scope at (tree.LastUnary u) here all = unary_stands P scope at u here all
  term_stands P scope at (tree.UnaryThen u o others) here all =
      let x = unary_value scope at u in
      let rest = factors scope at (first_integer x.value) o others in
      both_stand P x.faults _ (unary_stands P scope at u here (before P (unary_terminals u) _ _ all))
      (both_stand P rest.faults _ (factors_stand P scope at (first_integer x.value) o others here (behind P (unary_terminals u) _ _ all))
      (integers_stand P at rest.value here))

  factors_stand : (P : ℕ → Type 0) (scope : ScopeTree) (at : ℕ) (left : IntegersTree) (o : Multiplication) (t : TermTree) → P at → StandWhere P (term_terminals t)
      → FaultsStand P (factors scope at left o t)
  factors_stand P scope at left o (tree.LastUnary u) here all =
      let x = unary_value scope at u in both_stand P x.faults [] (unary_stands P scope at u here all) tt
  factors_stand P scope at left o (tree.UnaryThen u next others) here all =
      let x = unary_value scope at u in
      both_stand P x.faults _ (unary_stands P scope at u here (before P (unary_terminals u) _ _ all))
      (factors_stand P scope at _ next others here (behind P (unary_terminals u) _ _ all))

  unary_stands : (P : ℕ → Type 0) (scope : ScopeTree) (at : ℕ) (u : UnaryTree) → P at → StandWhere P (unary_terminals u) → FaultsStand P (unary_value scope at u)
  unary_stands P scope at (tree.Bare e) here all = primary_stands P scope at e here all
  unary_stands P scope at (tree.Signed sign u) here all =
      let v = unary_value scope at u in
      both_stand P v.faults _ (unary_stands P scope at u here all.1) (given_stands P at rule.WrongType (signed_value sign v.value) here)

  primary_stands : (P : ℕ → Type 0) (scope : ScopeTree) (at : ℕ) (e : PrimaryTree) → P at → StandWhere P (primary_terminals e) → FaultsStand P (primary_value scope at e)
  primary_stands P scope at (tree.Literal n) here all = tt
  primary_stands P scope at (tree.Truth b) here all = tt
  primary_stands P scope at (tree.Variable name) here all = name_stands P scope at name here all.0
  primary_stands P scope at (tree.Entry name index) here all =
      let e = used_name scope name in
      let v = index_value scope at index in
      both_stand P e.faults _ (used_stands P scope name all.0)
      (both_stand P v.faults _ (index_stands P scope index (value_of scope at index) (value_stands P scope at index here (before P (expression_terminals index) _ _ all.1.1)))
      (entry_of_stands P scope.inside at e.value v.value here))
  primary_stands P scope at (tree.Size name) here all = size_stands P scope at name here all.0
  primary_stands P scope at (tree.Parentheses inside) here all = value_stands P scope at inside here (before P (expression_terminals inside) _ _ all.1)
