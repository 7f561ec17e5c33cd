-- Signs before a value.
use Rattle.std.proofs.Common.{◌≡◌, ◌≢◌, refl, ap, sym, ◌∙◌, ℕ, Bool, true, false, true≢false, List, [], ◌∷◌, length, ◌==◌, Option, Some, None}
use Rattle.std.proofs.lemmas.Bool.{false≢true}
use Rattle.syntax.specs.declared.operators.Prefix.{Prefix}
use Rattle.syntax.specs.declared.operators.Prefix.TheVariants as prefix
use Rattle.syntax.specs.SourceTrees.{PrimaryTree, Bare}
use Rattle.syntax.specs.ExpressionViews.{signed_operand}
use Rattle.typed_tree.specs.declared.expression.Endpoint.{Endpoint}
use Rattle.typed_tree.specs.declared.expression.VarRef.{VarRef}
use Rattle.typed_tree.specs.BoolExpressionTree.{BoolExpressionTree, inverted}
use Rattle.typed_tree.specs.IntExpressionTree.{IntExpressionTree, Parameter, negated}
use Rattle.expression_types.specs.declared.fault.Fault.{Fault}
use Rattle.expression_types.specs.declared.fault.TypeRule.TheVariants as rule
use Rattle.expression_types.specs.Faults.{earlier, WithFaults, sure, fault_at, outcome, ◌>>=◌}
use Rattle.expression_types.specs.Operators.{given_or_fault, signed_value}
use Rattle.expression_types.specs.Expression.{unary_value, primary_value}
use Rattle.expression_types.specs.ScopeTree.{ScopeTree}
use Rattle.expression_types.proofs.Steps.{bind-sure, bind-bind}
use Rattle.expression_types.specs.inside.Signs.{signs_value, all_minus, all_not}
use Rattle.expression_types.specs.ValueTree.{ValueTree, Integer, Condition, Vertex, Set, ErrorValue, is_error, is_condition, as_integer}

-- one sign more
abbrev signed : ℕ → Prefix → WithFaults ValueTree → WithFaults ValueTree
signed at sign m = m >>= λ v. given_or_fault at rule.WrongType (signed_value sign v)

nots : (at : ℕ) (signs : List Prefix) (c : BoolExpressionTree) → all_not signs ≡ true → signs_value at signs (Condition c) ≡ sure (Condition (inverted (length signs) c))
nots at [] c all = refl
nots at (prefix.Not ∷ signs) c all = ap (signed at prefix.Not) (nots at signs c all)
nots at (prefix.Minus ∷ signs) c all = absurd (false≢true all)

minus_on_condition : (at : ℕ) (signs : List Prefix) (c : BoolExpressionTree) (all : Bool) → all_not signs ≡ all
    → (all_not signs ≡ false → signs_value at signs (Condition c) ≡ fault_at at rule.WrongType ErrorValue)
    → signs_value at (prefix.Minus ∷ signs) (Condition c) ≡ fault_at at rule.WrongType ErrorValue
minus_on_condition at signs c true is misses = ap (signed at prefix.Minus) (nots at signs c is)
minus_on_condition at signs c false is misses = ap (signed at prefix.Minus) (misses is)

not_nots : (at : ℕ) (signs : List Prefix) (c : BoolExpressionTree) → all_not signs ≡ false → signs_value at signs (Condition c) ≡ fault_at at rule.WrongType ErrorValue
not_nots at [] c some = absurd (true≢false some)
not_nots at (prefix.Not ∷ signs) c some = ap (signed at prefix.Not) (not_nots at signs c some)
not_nots at (prefix.Minus ∷ signs) c some = minus_on_condition at signs c (all_not signs) refl (λ is. not_nots at signs c is)

minuses : (at : ℕ) (signs : List Prefix) (e : IntExpressionTree) → all_minus signs ≡ true → signs_value at signs (Integer e) ≡ sure (Integer (negated (length signs) e))
minuses at [] e all = refl
minuses at (prefix.Minus ∷ signs) e all = ap (signed at prefix.Minus) (minuses at signs e all)
minuses at (prefix.Not ∷ signs) e all = absurd (false≢true all)

not_on_integer : (at : ℕ) (signs : List Prefix) (e : IntExpressionTree) (all : Bool) → all_minus signs ≡ all
    → (all_minus signs ≡ false → signs_value at signs (Integer e) ≡ fault_at at rule.WrongType ErrorValue)
    → signs_value at (prefix.Not ∷ signs) (Integer e) ≡ fault_at at rule.WrongType ErrorValue
not_on_integer at signs e true is misses = ap (signed at prefix.Not) (minuses at signs e is)
not_on_integer at signs e false is misses = ap (signed at prefix.Not) (misses is)

not_minuses : (at : ℕ) (signs : List Prefix) (e : IntExpressionTree) → all_minus signs ≡ false → signs_value at signs (Integer e) ≡ fault_at at rule.WrongType ErrorValue
not_minuses at [] e some = absurd (true≢false some)
not_minuses at (prefix.Minus ∷ signs) e some = ap (signed at prefix.Minus) (not_minuses at signs e some)
not_minuses at (prefix.Not ∷ signs) e some = not_on_integer at signs e (all_minus signs) refl (λ is. not_minuses at signs e is)

-- after a sign a vertex reads as its number
as_number : (at : ℕ) (sign : Prefix) (signs : List Prefix) (p : Endpoint)
    → signs_value at (sign ∷ signs) (Vertex p) ≡ signs_value at (sign ∷ signs) (Integer (Parameter p))
as_number at prefix.Minus [] p = refl
as_number at prefix.Not [] p = refl
as_number at sign (s ∷ signs) p = ap (signed at sign) (as_number at s signs p)

on_set : (at : ℕ) (sign : Prefix) (signs : List Prefix) (slot : VarRef) → signs_value at (sign ∷ signs) (Set slot) ≡ fault_at at rule.WrongType ErrorValue
on_set at prefix.Minus [] slot = refl
on_set at prefix.Not [] slot = refl
on_set at prefix.Minus (s ∷ signs) slot = ap (signed at prefix.Minus) (on_set at s signs slot)
on_set at prefix.Not (s ∷ signs) slot = ap (signed at prefix.Not) (on_set at s signs slot)

on_error : (at : ℕ) (signs : List Prefix) → signs_value at signs ErrorValue ≡ sure ErrorValue
on_error at [] = refl
on_error at (prefix.Minus ∷ signs) = ap (signed at prefix.Minus) (on_error at signs)
on_error at (prefix.Not ∷ signs) = ap (signed at prefix.Not) (on_error at signs)

-- a fault of a type, where others were noted before
abbrev pub wrong : ℕ → Option Fault → Option Fault
wrong at first_fault = Some (earlier first_fault (record { at = at; rule = rule.WrongType }))

pub error_stays : (at : ℕ) (first_fault : Option Fault) (signs : List Prefix) (v : ValueTree) → is_error v ≡ true
    → outcome first_fault (signs_value at signs v) ≡ (v, first_fault)
error_stays at first_fault signs (Integer e) is = absurd (false≢true is)
error_stays at first_fault signs (Condition c) is = absurd (false≢true is)
error_stays at first_fault signs (Vertex p) is = absurd (false≢true is)
error_stays at first_fault signs (Set slot) is = absurd (false≢true is)
error_stays at first_fault signs ErrorValue is = ap (outcome first_fault) (on_error at signs)

pub condition_inverted : (at : ℕ) (first_fault : Option Fault) (signs : List Prefix) (c : BoolExpressionTree) → all_not signs ≡ true
    → outcome first_fault (signs_value at signs (Condition c)) ≡ (Condition (inverted (length signs) c), first_fault)
condition_inverted at first_fault signs c all = ap (outcome first_fault) (nots at signs c all)

pub condition_misses : (at : ℕ) (first_fault : Option Fault) (signs : List Prefix) (c : BoolExpressionTree) → all_not signs ≡ false
    → outcome first_fault (signs_value at signs (Condition c)) ≡ (ErrorValue, wrong at first_fault)
condition_misses at first_fault signs c some = ap (outcome first_fault) (not_nots at signs c some)

pub integer_negated : (at : ℕ) (first_fault : Option Fault) (signs : List Prefix) (v : ValueTree) (e : IntExpressionTree) → signs ≢ [] → Some e ≡ as_integer v → all_minus signs ≡ true
    → outcome first_fault (signs_value at signs v) ≡ (Integer (negated (length signs) e), first_fault)
integer_negated at first_fault [] v e some is all = absurd (some refl)
integer_negated at first_fault (s ∷ signs) (Integer d) e some is all =
    ap (outcome first_fault) (minuses at (s ∷ signs) d all) ∙ ap (λ d. (Integer (negated (length (s ∷ signs)) d), first_fault)) (let h : d ≡ e = cc in h)
integer_negated at first_fault (s ∷ signs) (Condition c) e some is all = cc
integer_negated at first_fault (s ∷ signs) (Vertex p) e some is all =
    ap (outcome first_fault) (as_number at s signs p ∙ minuses at (s ∷ signs) (Parameter p) all)
    ∙ ap (λ d. (Integer (negated (length (s ∷ signs)) d), first_fault)) (let h : Parameter p ≡ e = cc in h)
integer_negated at first_fault (s ∷ signs) (Set slot) e some is all = cc
integer_negated at first_fault (s ∷ signs) ErrorValue e some is all = cc

pub integer_misses : (at : ℕ) (first_fault : Option Fault) (signs : List Prefix) (v : ValueTree) (e : IntExpressionTree) → signs ≢ [] → Some e ≡ as_integer v → all_minus signs ≡ false
    → outcome first_fault (signs_value at signs v) ≡ (ErrorValue, wrong at first_fault)
integer_misses at first_fault [] v e some is missing = absurd (some refl)
integer_misses at first_fault (s ∷ signs) (Integer d) e some is missing = ap (outcome first_fault) (not_minuses at (s ∷ signs) d missing)
integer_misses at first_fault (s ∷ signs) (Condition c) e some is missing = cc
integer_misses at first_fault (s ∷ signs) (Vertex p) e some is missing =
    ap (outcome first_fault) (as_number at s signs p ∙ not_minuses at (s ∷ signs) (Parameter p) missing)
integer_misses at first_fault (s ∷ signs) (Set slot) e some is missing = cc
integer_misses at first_fault (s ∷ signs) ErrorValue e some is missing = cc

pub other_misses : (at : ℕ) (first_fault : Option Fault) (signs : List Prefix) (v : ValueTree) → signs ≢ [] → is_error v ≡ false → is_condition v ≡ false
    → None ≡ as_integer v → outcome first_fault (signs_value at signs v) ≡ (ErrorValue, wrong at first_fault)
other_misses at first_fault [] v some sound not none = absurd (some refl)
other_misses at first_fault (s ∷ signs) (Integer d) some sound not none = cc
other_misses at first_fault (s ∷ signs) (Condition c) some sound not none = absurd (true≢false not)
other_misses at first_fault (s ∷ signs) (Vertex p) some sound not none = cc
other_misses at first_fault (s ∷ signs) (Set slot) some sound not none = ap (outcome first_fault) (on_set at s signs slot)
other_misses at first_fault (s ∷ signs) ErrorValue some sound not none = absurd (true≢false sound)

-- the value and what is noted, under other names
pub named_so : {A B : Type 0} {m : A × B} {x y : A} {n k : B} → m ≡ (x, n) → y ≡ x → k ≡ n → m ≡ (y, k)
named_so is value first_fault = is ∙ (λ i. (sym value i, sym first_fault i))

-- a list that a test says is not empty
pub not_empty : {signs : List Prefix} → (length signs == 0) ≡ false → signs ≢ []
not_empty is none = true≢false (sym (ap (λ (signs : List Prefix). length signs == 0) none) ∙ is)

-- signs and then a primary
pub unary_value-behind : (scope : ScopeTree) (at : ℕ) (signs : List Prefix) (p : PrimaryTree)
    → unary_value scope at (signed_operand signs (Bare p)) ≡ (primary_value scope at p >>= signs_value at signs)
unary_value-behind scope at [] p = sym (bind-sure (primary_value scope at p))
unary_value-behind scope at (s ∷ signs) p =
    ap (signed at s) (unary_value-behind scope at signs p)
    ∙ bind-bind (primary_value scope at p) (signs_value at signs) (λ v. given_or_fault at rule.WrongType (signed_value s v))
