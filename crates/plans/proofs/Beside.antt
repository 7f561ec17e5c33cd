-- Functions over vectors and sets that differ in what they do not read.
use Rattle.std.proofs.Common.{◌≡◌, ℕ, ℤ, pos, negsuc, Bool, true, false, not, cond, List, [], ◌∷◌, ◌++◌, length, slice_get, slice_index_or, ap, sym, ◌∙◌, refl, subst}
use Rattle.std.specs.Int.{cast_signed, w64}
use Rattle.std.specs.List.{list_all}
use Rattle.std.proofs.lemmas.List.Folds.{list_all-append}
use Rattle.apply_options.specs.declared.reduction.Reduction.{Reduction}
use Rattle.typed_tree.specs.IntExpressionTree as integer
use Rattle.typed_tree.specs.IntExpressionTree.{IntExpressionTree}
use Rattle.typed_tree.specs.BoolExpressionTree as condition
use Rattle.typed_tree.specs.BoolExpressionTree.{BoolExpressionTree}
use Rattle.typed_tree.specs.FunctionStatementTree.{FunctionStatementTree, DeclareInt, DeclareBool, SetInt, SetBool, ReduceInt, SetEntry, ReduceEntry, If, IfElse}
use Rattle.typed_tree.specs.FunctionStatementTree.{FunctionStatementsTree, NoStep, StepThen}
use Rattle.algorithm_meaning.specs.Arithmetic.{negative, arithmetic, compared, connected}
use Rattle.algorithm_meaning.specs.State.{ScopeValue, edge_scope, filter_scope}
use Rattle.algorithm_meaning.specs.Value.{vertex_at, entry_at, members_of, value, truth}
use Rattle.algorithm_meaning.specs.Statements.{new_integer, new_condition, set_int, set_bool, reduce_int, forget_new}
use Rattle.algorithm_meaning.specs.Function.{WorkValue, first_work, after_set, after_reduce, after_step, after_steps, after_block, result_of}
use Rattle.algorithm_meaning.specs.EdgeApply.{gives}
use Rattle.typed_tree.specs.Independence.{is_none_of, are_apart}
use Rattle.typed_tree.specs.inside.Access.{integer_reads, condition_reads, step_uses, steps_use}
use Rattle.std.proofs.lemmas.Bool.{and_parts}
use Rattle.weighted_edges.specs.Edge.{Edge}
use Rattle.plans.specs.inside.Fusing.{integer_sizes, condition_sizes, step_sizes, steps_sizes}
use Rattle.algorithm_meaning.specs.declared.state.SetBinding.{SetBinding}

pub both_parts : (P : ℕ → Bool) (xs ys : List ℕ) → list_all P (xs ++ ys) ≡ true → (list_all P xs ≡ true) × (list_all P ys ≡ true)
both_parts P xs ys h = and_parts (list_all P xs) (list_all P ys) (sym (list_all-append P xs ys) ∙ h)

-- the rows of other vectors are the same, and the members of other sets
abbrev pub AgreeBut : List ℕ → (xs ys : List (List ℤ)) → Type 0
AgreeBut changed xs ys = (vector : ℕ) → is_none_of vector changed ≡ true → slice_index_or xs vector [] ≡ slice_index_or ys vector []

abbrev pub SetsAgreeBut : List ℕ → (a b : List SetBinding) → Type 0
SetsAgreeBut changed a b = (index : ℕ) → is_none_of index changed ≡ true → members_of (slice_get a index) ≡ members_of (slice_get b index)

-- what two runs of a function have in common
pub record IsBeside (vectors : List ℕ) (v w : WorkValue) : Type 0 where
  pub rows : AgreeBut vectors v.vectors w.vectors
  pub scope : v.scope ≡ w.scope
  pub given : v.given ≡ w.given

index_same : (xs ys : List (List ℤ)) (vector : ℕ) (n : ℤ) → slice_index_or xs vector [] ≡ slice_index_or ys vector [] → entry_at xs vector n ≡ entry_at ys vector n
index_same xs ys vector (pos n) e = ap (λ (row : List ℤ). slice_index_or row n (pos 0)) e
index_same xs ys vector (negsuc n) e = refl

module _ (vectors indices : List ℕ) (a b : List SetBinding) (sets_agree : SetsAgreeBut indices a b) where
  value_beside : (v w : WorkValue) → IsBeside vectors v w → (e : IntExpressionTree) → are_apart (integer_reads e) vectors ≡ true → are_apart (integer_sizes e) indices ≡ true
      → value v.vectors a v.scope e ≡ value w.vectors b w.scope e
  value_beside v w h (integer.Number n) reads sizes = refl
  value_beside v w h (integer.Constant name n) reads sizes = refl
  value_beside v w h (integer.Variable slot) reads sizes = ap (λ (s : ScopeValue). slice_index_or s.integers slot.index (pos 0)) h.scope
  value_beside v w h (integer.Parameter at) reads sizes = ap (λ (s : ScopeValue). pos (vertex_at s at)) h.scope
  value_beside v w h integer.Weight reads sizes = ap (λ (s : ScopeValue). s.weight) h.scope
  value_beside v w h (integer.EntryAt vector at) reads sizes =
      let own = and_parts (is_none_of vector vectors) true reads in
      let row = h.rows vector own.0 in
      λ i. slice_index_or (row i) (vertex_at (h.scope i) at) (pos 0)
  value_beside v w h (integer.Entry vector subscript) reads sizes =
      let own = and_parts (is_none_of vector vectors) (are_apart (integer_reads subscript) vectors) reads in
      ap (entry_at v.vectors vector) (value_beside v w h subscript own.1 sizes)
      ∙ index_same v.vectors w.vectors vector (value w.vectors b w.scope subscript) (h.rows vector own.0)
  value_beside v w h (integer.SetSize slot) reads sizes =
      let own = and_parts (is_none_of slot.index indices) true sizes in
      ap (λ (members : List ℕ). cast_signed w64 (length members)) (sets_agree slot.index own.0)
  value_beside v w h (integer.Negative e) reads sizes = ap negative (value_beside v w h e reads sizes)
  value_beside v w h (integer.Arithmetic o x y) reads sizes =
      let r = both_parts (λ v. is_none_of v vectors) (integer_reads x) (integer_reads y) reads in
      let s = both_parts (λ v. is_none_of v indices) (integer_sizes x) (integer_sizes y) sizes in
      let m = value_beside v w h x r.0 s.0 in
      let n = value_beside v w h y r.1 s.1 in
      λ i. arithmetic o (m i) (n i)

  truth_beside : (v w : WorkValue) → IsBeside vectors v w → (c : BoolExpressionTree) → are_apart (condition_reads c) vectors ≡ true → are_apart (condition_sizes c) indices ≡ true
      → truth v.vectors a v.scope c ≡ truth w.vectors b w.scope c
  truth_beside v w h (condition.Literal x) reads sizes = refl
  truth_beside v w h (condition.Constant name x) reads sizes = refl
  truth_beside v w h (condition.Variable slot) reads sizes = ap (λ (s : ScopeValue). slice_index_or s.conditions slot.index false) h.scope
  truth_beside v w h (condition.Not c) reads sizes = ap not (truth_beside v w h c reads sizes)
  truth_beside v w h (condition.Compare o x y) reads sizes =
      let r = both_parts (λ v. is_none_of v vectors) (integer_reads x) (integer_reads y) reads in
      let s = both_parts (λ v. is_none_of v indices) (integer_sizes x) (integer_sizes y) sizes in
      let m = value_beside v w h x r.0 s.0 in
      let n = value_beside v w h y r.1 s.1 in
      λ i. compared o (m i) (n i)
  truth_beside v w h (condition.Connect o x y) reads sizes =
      let r = both_parts (λ v. is_none_of v vectors) (condition_reads x) (condition_reads y) reads in
      let s = both_parts (λ v. is_none_of v indices) (condition_sizes x) (condition_sizes y) sizes in
      let m = truth_beside v w h x r.0 s.0 in
      let n = truth_beside v w h y r.1 s.1 in
      λ i. connected o (m i) (n i)

  either_beside : (x y : Bool) (v w v' w' : WorkValue) → x ≡ y → IsBeside vectors v w → IsBeside vectors v' w' → IsBeside vectors (cond x v v') (cond y w w')
  either_beside true true v w v' w' e h k = h
  either_beside false false v w v' w' e h k = k
  either_beside true false v w v' w' e h k = cc
  either_beside false true v w v' w' e h k = cc

  block_beside : (old v new w : WorkValue) → IsBeside vectors old new → IsBeside vectors v w → IsBeside vectors (after_block old v) (after_block new w)
  block_beside old v new w h k = record { rows = k.rows; scope = λ i. forget_new (h.scope i) (k.scope i); given = k.given }

-- what is written is collected
module _ (vectors indices : List ℕ) (a b : List SetBinding) (sets_agree : SetsAgreeBut indices a b) (writing : _)
    (sets_nothing : (vector : ℕ) (n : ℤ) (w : WorkValue) → after_set writing vector n w ≡ w)
    (gives_number : (vector : ℕ) (r : Reduction) (n : ℤ) (w : WorkValue) → after_reduce writing vector r n w ≡ record w {
      given =
          w.given ++ record { vector = vector; reduction = r; number = n } ∷ [];
    }) where
  set_beside : (v w : WorkValue) → IsBeside vectors v w → (vector : ℕ) (x y : ℤ) → IsBeside vectors (after_set writing vector x v) (after_set writing vector y w)
  set_beside v w h vector x y =
      subst (λ (z : WorkValue). IsBeside vectors z (after_set writing vector y w)) (sym (sets_nothing vector x v))
      (subst (λ (z : WorkValue). IsBeside vectors v z) (sym (sets_nothing vector y w)) h)

  reduce_beside : (v w : WorkValue) → IsBeside vectors v w → (vector : ℕ) (r : Reduction) (x y : ℤ) → x ≡ y → IsBeside vectors (after_reduce writing vector r x v) (after_reduce writing vector r y w)
  reduce_beside v w h vector r x y e =
      let m : WorkValue = record v { given = v.given ++ record { vector = vector; reduction = r; number = x } ∷ [] } in
      let n : WorkValue = record w { given = w.given ++ record { vector = vector; reduction = r; number = y } ∷ [] } in
      let both : IsBeside vectors m n = record { rows = h.rows; scope = h.scope; given = λ i. h.given i ++ record { vector = vector; reduction = r; number = e i } ∷ [] } in
      subst (λ (z : WorkValue). IsBeside vectors z (after_reduce writing vector r y w)) (sym (gives_number vector r x v))
      (subst (λ (z : WorkValue). IsBeside vectors m z) (sym (gives_number vector r y w)) both)

  mutual
    step_beside : (step : FunctionStatementTree) (v w : WorkValue) → IsBeside vectors v w → are_apart (step_uses step) vectors ≡ true → are_apart (step_sizes step) indices ≡ true
        → IsBeside vectors (after_step writing a step v) (after_step writing b step w)
    step_beside (DeclareInt name e) v w h uses sizes =
        let x = value_beside vectors indices a b sets_agree v w h e uses sizes in
        record { rows = h.rows; scope = λ i. new_integer (h.scope i) (x i); given = h.given }
    step_beside (DeclareBool name c) v w h uses sizes =
        let x = truth_beside vectors indices a b sets_agree v w h c uses sizes in
        record { rows = h.rows; scope = λ i. new_condition (h.scope i) (x i); given = h.given }
    step_beside (SetInt slot e) v w h uses sizes =
        let x = value_beside vectors indices a b sets_agree v w h e uses sizes in
        record { rows = h.rows; scope = λ i. set_int (h.scope i) slot.index (x i); given = h.given }
    step_beside (SetBool slot c) v w h uses sizes =
        let x = truth_beside vectors indices a b sets_agree v w h c uses sizes in
        record { rows = h.rows; scope = λ i. set_bool (h.scope i) slot.index (x i); given = h.given }
    step_beside (ReduceInt slot reduction e) v w h uses sizes =
        let x = value_beside vectors indices a b sets_agree v w h e uses sizes in
        record { rows = h.rows; scope = λ i. reduce_int (h.scope i) slot.index reduction (x i); given = h.given }
    step_beside (SetEntry vector e) v w h uses sizes = set_beside v w h vector (value v.vectors a v.scope e) (value w.vectors b w.scope e)
    step_beside (ReduceEntry vector reduction e) v w h uses sizes =
        let own = and_parts (is_none_of vector vectors) (are_apart (integer_reads e) vectors) uses in
        reduce_beside v w h vector reduction (value v.vectors a v.scope e) (value w.vectors b w.scope e) (value_beside vectors indices a b sets_agree v w h e own.1 sizes)
    step_beside (If c body) v w h uses sizes =
        let r = both_parts (λ v. is_none_of v vectors) (condition_reads c) (steps_use body) uses in
        let s = both_parts (λ v. is_none_of v indices) (condition_sizes c) (steps_sizes body) sizes in
        either_beside vectors indices a b sets_agree (truth v.vectors a v.scope c) (truth w.vectors b w.scope c)
        (after_block v (after_steps writing a body v)) (after_block w (after_steps writing b body w)) v w
        (truth_beside vectors indices a b sets_agree v w h c r.0 s.0)
        (block_beside vectors indices a b sets_agree v (after_steps writing a body v) w (after_steps writing b body w) h (steps_beside body v w h r.1 s.1)) h
    step_beside (IfElse c body other) v w h uses sizes =
        let r = both_parts (λ v. is_none_of v vectors) (condition_reads c) (steps_use body ++ steps_use other) uses in
        let s = both_parts (λ v. is_none_of v indices) (condition_sizes c) (steps_sizes body ++ steps_sizes other) sizes in
        let blocks = both_parts (λ v. is_none_of v vectors) (steps_use body) (steps_use other) r.1 in
        let inner = both_parts (λ v. is_none_of v indices) (steps_sizes body) (steps_sizes other) s.1 in
        either_beside vectors indices a b sets_agree (truth v.vectors a v.scope c) (truth w.vectors b w.scope c)
        (after_block v (after_steps writing a body v)) (after_block w (after_steps writing b body w))
        (after_block v (after_steps writing a other v)) (after_block w (after_steps writing b other w))
        (truth_beside vectors indices a b sets_agree v w h c r.0 s.0)
        (block_beside vectors indices a b sets_agree v (after_steps writing a body v) w (after_steps writing b body w) h (steps_beside body v w h blocks.0 inner.0))
        (block_beside vectors indices a b sets_agree v (after_steps writing a other v) w (after_steps writing b other w) h (steps_beside other v w h blocks.1 inner.1))

    steps_beside : (steps : FunctionStatementsTree) (v w : WorkValue) → IsBeside vectors v w → are_apart (steps_use steps) vectors ≡ true → are_apart (steps_sizes steps) indices ≡ true
        → IsBeside vectors (after_steps writing a steps v) (after_steps writing b steps w)
    steps_beside NoStep v w h uses sizes = h
    steps_beside (StepThen step rest) v w h uses sizes =
        let r = both_parts (λ v. is_none_of v vectors) (step_uses step) (steps_use rest) uses in
        let s = both_parts (λ v. is_none_of v indices) (step_sizes step) (steps_sizes rest) sizes in
        steps_beside rest (after_step writing a step v) (after_step writing b step w) (step_beside step v w h r.0 s.0) r.1 s.1

  given_beside : (steps : FunctionStatementsTree) (xs ys : List (List ℤ)) (scope : ScopeValue) → AgreeBut vectors xs ys → are_apart (steps_use steps) vectors ≡ true
      → are_apart (steps_sizes steps) indices ≡ true
      → (after_steps writing a steps (first_work xs scope)).given ≡ (after_steps writing b steps (first_work ys scope)).given
  given_beside steps xs ys scope agree uses sizes =
      let r = steps_beside steps (first_work xs scope) (first_work ys scope) (record { rows = agree; scope = refl; given = refl }) uses sizes in
      r.given

  result_beside : (steps : FunctionStatementsTree) (xs ys : List (List ℤ)) (scope : ScopeValue) → AgreeBut vectors xs ys → are_apart (steps_use steps) vectors ≡ true
      → are_apart (steps_sizes steps) indices ≡ true
      → slice_index_or (after_steps writing a steps (first_work xs scope)).scope.conditions 0 false ≡ slice_index_or (after_steps writing b steps (first_work ys scope)).scope.conditions 0 false
  result_beside steps xs ys scope agree uses sizes =
      let r = steps_beside steps (first_work xs scope) (first_work ys scope) (record { rows = agree; scope = refl; given = refl }) uses sizes in
      ap (λ (s : ScopeValue). slice_index_or s.conditions 0 false) r.scope

module _ (vectors indices : List ℕ) (a b : List SetBinding) (sets_agree : SetsAgreeBut indices a b) (steps : FunctionStatementsTree) (xs ys : List (List ℤ)) (agree : AgreeBut vectors xs ys)
    (uses : are_apart (steps_use steps) vectors ≡ true) (sizes : are_apart (steps_sizes steps) indices ≡ true) where
  -- an edge function gives the same
  pub gives_same : (edge : Edge) → gives steps a xs edge ≡ gives steps b ys edge
  gives_same edge = given_beside vectors indices a b sets_agree _ (λ vector n w. refl) (λ vector r n w. refl) steps xs ys (edge_scope edge) agree uses sizes

  -- and a filter has the same result
  pub result_same : (v : ℕ) → result_of steps a xs v ≡ result_of steps b ys v
  result_same v = result_beside vectors indices a b sets_agree _ (λ vector n w. refl) (λ vector r n w. refl) steps xs ys (filter_scope v) agree uses sizes
