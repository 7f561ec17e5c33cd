-- Functions that work on their own vertex alone.
use Rattle.std.proofs.Common.{◌≡◌, ℕ, ◌&&◌, ℤ, pos, Bool, true, false, not, cond, List, Option, slice_index_or, ap, sym, ◌∙◌, refl, subst}
use Rattle.apply_options.specs.declared.reduction.Reduction.{Reduction}
use Rattle.typed_tree.specs.declared.expression.Endpoint.{Endpoint}
use Rattle.typed_tree.specs.declared.expression.Endpoint.TheVariants as endpoint
use Rattle.typed_tree.specs.IntExpressionTree as integer
use Rattle.typed_tree.specs.IntExpressionTree.{IntExpressionTree}
use Rattle.typed_tree.specs.BoolExpressionTree as condition
use Rattle.typed_tree.specs.BoolExpressionTree.{BoolExpressionTree}
use Rattle.typed_tree.specs.FunctionStatementTree.{FunctionStatementTree, DeclareInt, DeclareBool, SetInt, SetBool, ReduceInt, SetEntry, ReduceEntry, If, IfElse}
use Rattle.typed_tree.specs.FunctionStatementTree.{FunctionStatementsTree, NoStep, StepThen}
use Rattle.algorithm_meaning.specs.Arithmetic.{negative, arithmetic, compared, connected, reduced}
use Rattle.algorithm_meaning.specs.State.{ScopeValue, vertex_scope}
use Rattle.algorithm_meaning.specs.Value.{vertex_at, entry, with_entry, reduce_at, value, truth}
use Rattle.algorithm_meaning.specs.Statements.{new_integer, new_condition, set_int, set_bool, reduce_int, forget_new}
use Rattle.algorithm_meaning.specs.Function.{WorkValue, first_work, after_set, after_reduce, after_step, after_steps, after_block}
use Rattle.algorithm_meaning.specs.VertexSets.{after_vertex}
use Rattle.std.proofs.lemmas.Bool.{and_parts}
use Rattle.plans.specs.inside.Fusing.{integer_is_local, condition_is_local, step_is_local, steps_are_local}
use Rattle.algorithm_meaning.specs.declared.state.SetBinding.{SetBinding}
use Rattle.plans.proofs.Columns.{column, entry_in, put, entry-column, column-here}

-- what a function at this vertex cannot tell apart
pub record IsAlike (u : ℕ) (v w : WorkValue) : Type 0 where
  pub columns : column u v.vectors ≡ column u w.vectors
  pub scope : v.scope ≡ w.scope
  pub source : v.scope.source ≡ u
  pub destination : v.scope.destination ≡ u

entry_alike : (u : ℕ) (v w : WorkValue) → IsAlike u v w → (vector : ℕ) → entry v.vectors vector u ≡ entry w.vectors vector u
entry_alike u v w h vector = entry-column v.vectors vector u ∙ ap (λ (os : List (Option ℤ)). entry_in os vector) h.columns ∙ sym (entry-column w.vectors vector u)

at_vertex : (u : ℕ) (v : WorkValue) → v.scope.source ≡ u → v.scope.destination ≡ u → (at : Endpoint) → vertex_at v.scope at ≡ u
at_vertex u v s d endpoint.Source = s
at_vertex u v s d endpoint.Destination = d

other_source : (u : ℕ) (v w : WorkValue) → IsAlike u v w → w.scope.source ≡ u
other_source u v w h = ap (λ (s : ScopeValue). s.source) (sym h.scope) ∙ h.source

other_destination : (u : ℕ) (v w : WorkValue) → IsAlike u v w → w.scope.destination ≡ u
other_destination u v w h = ap (λ (s : ScopeValue). s.destination) (sym h.scope) ∙ h.destination

module _ (u : ℕ) (sets : List SetBinding) where
  value_alike : (v w : WorkValue) → IsAlike u v w → (e : IntExpressionTree) → integer_is_local e ≡ true → value v.vectors sets v.scope e ≡ value w.vectors sets w.scope e
  value_alike v w h (integer.Number n) local = refl
  value_alike v w h (integer.Constant name n) local = refl
  value_alike v w h (integer.Variable slot) local = ap (λ (s : ScopeValue). slice_index_or s.integers slot.index (pos 0)) h.scope
  value_alike v w h (integer.Parameter at) local = ap (λ (s : ScopeValue). pos (vertex_at s at)) h.scope
  value_alike v w h integer.Weight local = ap (λ (s : ScopeValue). s.weight) h.scope
  value_alike v w h (integer.EntryAt vector at) local =
      ap (entry v.vectors vector) (at_vertex u v h.source h.destination at)
      ∙ entry_alike u v w h vector
      ∙ ap (entry w.vectors vector) (sym (at_vertex u w (other_source u v w h) (other_destination u v w h) at))
  value_alike v w h (integer.Entry vector subscript) local = cc
  value_alike v w h (integer.SetSize slot) local = refl
  value_alike v w h (integer.Negative e) local = ap negative (value_alike v w h e local)
  value_alike v w h (integer.Arithmetic o a b) local =
      let both = and_parts (integer_is_local a) (integer_is_local b) local in
      let x = value_alike v w h a both.0 in
      let y = value_alike v w h b both.1 in
      λ i. arithmetic o (x i) (y i)

  truth_alike : (v w : WorkValue) → IsAlike u v w → (c : BoolExpressionTree) → condition_is_local c ≡ true → truth v.vectors sets v.scope c ≡ truth w.vectors sets w.scope c
  truth_alike v w h (condition.Literal b) local = refl
  truth_alike v w h (condition.Constant name b) local = refl
  truth_alike v w h (condition.Variable slot) local = ap (λ (s : ScopeValue). slice_index_or s.conditions slot.index false) h.scope
  truth_alike v w h (condition.Not c) local = ap not (truth_alike v w h c local)
  truth_alike v w h (condition.Compare o a b) local =
      let both = and_parts (integer_is_local a) (integer_is_local b) local in
      let x = value_alike v w h a both.0 in
      let y = value_alike v w h b both.1 in
      λ i. compared o (x i) (y i)
  truth_alike v w h (condition.Connect o a b) local =
      let both = and_parts (condition_is_local a) (condition_is_local b) local in
      let x = truth_alike v w h a both.0 in
      let y = truth_alike v w h b both.1 in
      λ i. connected o (x i) (y i)

  -- an entry of the vertex is written
  written : (v : WorkValue) (vector : ℕ) (x : ℤ) → v.scope.source ≡ u → column u (with_entry v.vectors vector v.scope.source x) ≡ put (column u v.vectors) vector x
  written v vector x s = ap (λ (y : ℕ). column u (with_entry v.vectors vector y x)) s ∙ column-here v.vectors vector u x

  written_alike : (v w : WorkValue) → IsAlike u v w → (vector : ℕ) (x y : ℤ) → x ≡ y
      → column u (with_entry v.vectors vector v.scope.source x) ≡ column u (with_entry w.vectors vector w.scope.source y)
  written_alike v w h vector x y e =
      written v vector x h.source ∙ (λ i. put (h.columns i) vector (e i)) ∙ sym (written w vector y (other_source u v w h))

  either_alike : (a b : Bool) (v w v' w' : WorkValue) → a ≡ b → IsAlike u v w → IsAlike u v' w' → IsAlike u (cond a v v') (cond b w w')
  either_alike true true v w v' w' e h k = h
  either_alike false false v w v' w' e h k = k
  either_alike true false v w v' w' e h k = cc
  either_alike false true v w v' w' e h k = cc

  block_alike : (old v new w : WorkValue) → IsAlike u old new → IsAlike u v w → IsAlike u (after_block old v) (after_block new w)
  block_alike old v new w h k = record {
    columns = k.columns;
    scope = λ i. forget_new (h.scope i) (k.scope i);
    source = k.source;
    destination = k.destination;
  }

-- what is written is seen at once
module _ (u : ℕ) (sets : List SetBinding) (writing : _) (sets_at_once : (vector : ℕ) (n : ℤ) (w : WorkValue)
    → after_set writing vector n w ≡ record w { vectors = with_entry w.vectors vector w.scope.source n })
    (reduces_at_once : (vector : ℕ) (r : Reduction) (n : ℤ) (w : WorkValue) → after_reduce writing vector r n w ≡ record w { vectors = reduce_at w.vectors vector w.scope.source r n }) where
  with_entries : (v w : WorkValue) → IsAlike u v w → (vector : ℕ) (x y : ℤ) → x ≡ y
      → IsAlike u (record v { vectors = with_entry v.vectors vector v.scope.source x }) (record w { vectors = with_entry w.vectors vector w.scope.source y })
  with_entries v w h vector x y e = record {
    columns = written_alike u sets v w h vector x y e;
    scope = h.scope;
    source = h.source;
    destination = h.destination;
  }

  set_alike : (v w : WorkValue) → IsAlike u v w → (vector : ℕ) (x y : ℤ) → x ≡ y → IsAlike u (after_set writing vector x v) (after_set writing vector y w)
  set_alike v w h vector x y e =
      subst (λ (z : WorkValue). IsAlike u z (after_set writing vector y w)) (sym (sets_at_once vector x v))
      (subst (λ (z : WorkValue). IsAlike u (record v { vectors = with_entry v.vectors vector v.scope.source x }) z) (sym (sets_at_once vector y w)) (with_entries v w h vector x y e))

  reduce_alike : (v w : WorkValue) → IsAlike u v w → (vector : ℕ) (r : Reduction) (x y : ℤ) → x ≡ y → IsAlike u (after_reduce writing vector r x v) (after_reduce writing vector r y w)
  reduce_alike v w h vector r x y e =
      let old = ap (entry v.vectors vector) h.source ∙ entry_alike u v w h vector ∙ ap (entry w.vectors vector) (sym (other_source u v w h)) in
      let both = with_entries v w h vector (reduced r (entry v.vectors vector v.scope.source) x) (reduced r (entry w.vectors vector w.scope.source) y) (λ i. reduced r (old i) (e i)) in
      subst (λ (z : WorkValue). IsAlike u z (after_reduce writing vector r y w)) (sym (reduces_at_once vector r x v))
      (subst (λ (z : WorkValue). IsAlike u (record v { vectors = reduce_at v.vectors vector v.scope.source r x }) z) (sym (reduces_at_once vector r y w)) both)

  mutual
    pub step_alike : (step : FunctionStatementTree) (v w : WorkValue) → step_is_local step ≡ true → IsAlike u v w → IsAlike u (after_step writing sets step v) (after_step writing sets step w)
    step_alike (DeclareInt name e) v w local h =
        let x = value_alike u sets v w h e local in
        record { columns = h.columns; scope = λ i. new_integer (h.scope i) (x i); source = h.source; destination = h.destination }
    step_alike (DeclareBool name c) v w local h =
        let x = truth_alike u sets v w h c local in
        record { columns = h.columns; scope = λ i. new_condition (h.scope i) (x i); source = h.source; destination = h.destination }
    step_alike (SetInt slot e) v w local h =
        let x = value_alike u sets v w h e local in
        record { columns = h.columns; scope = λ i. set_int (h.scope i) slot.index (x i); source = h.source; destination = h.destination }
    step_alike (SetBool slot c) v w local h =
        let x = truth_alike u sets v w h c local in
        record { columns = h.columns; scope = λ i. set_bool (h.scope i) slot.index (x i); source = h.source; destination = h.destination }
    step_alike (ReduceInt slot reduction e) v w local h =
        let x = value_alike u sets v w h e local in
        record { columns = h.columns; scope = λ i. reduce_int (h.scope i) slot.index reduction (x i); source = h.source; destination = h.destination }
    step_alike (SetEntry vector e) v w local h = set_alike v w h vector (value v.vectors sets v.scope e) (value w.vectors sets w.scope e) (value_alike u sets v w h e local)
    step_alike (ReduceEntry vector reduction e) v w local h = reduce_alike v w h vector reduction (value v.vectors sets v.scope e) (value w.vectors sets w.scope e) (value_alike u sets v w h e local)
    step_alike (If c body) v w local h =
        let both = and_parts (condition_is_local c) (steps_are_local body) local in
        either_alike u sets (truth v.vectors sets v.scope c) (truth w.vectors sets w.scope c) (after_block v (after_steps writing sets body v)) (after_block w (after_steps writing sets body w)) v w
        (truth_alike u sets v w h c both.0) (block_alike u sets v (after_steps writing sets body v) w (after_steps writing sets body w) h (steps_alike body v w both.1 h)) h
    step_alike (IfElse c body other) v w local h =
        let both = and_parts (condition_is_local c) (steps_are_local body && steps_are_local other) local in
        let blocks = and_parts (steps_are_local body) (steps_are_local other) both.1 in
        either_alike u sets (truth v.vectors sets v.scope c) (truth w.vectors sets w.scope c)
        (after_block v (after_steps writing sets body v)) (after_block w (after_steps writing sets body w))
        (after_block v (after_steps writing sets other v)) (after_block w (after_steps writing sets other w))
        (truth_alike u sets v w h c both.0)
        (block_alike u sets v (after_steps writing sets body v) w (after_steps writing sets body w) h (steps_alike body v w blocks.0 h))
        (block_alike u sets v (after_steps writing sets other v) w (after_steps writing sets other w) h (steps_alike other v w blocks.1 h))

    pub steps_alike : (steps : FunctionStatementsTree) (v w : WorkValue) → steps_are_local steps ≡ true → IsAlike u v w
        → IsAlike u (after_steps writing sets steps v) (after_steps writing sets steps w)
    steps_alike NoStep v w local h = h
    steps_alike (StepThen step rest) v w local h =
        let both = and_parts (step_is_local step) (steps_are_local rest) local in
        steps_alike rest (after_step writing sets step v) (after_step writing sets step w) both.1 (step_alike step v w both.0 h)

  columns_alike : (steps : FunctionStatementsTree) (xs ys : List (List ℤ)) → steps_are_local steps ≡ true → column u xs ≡ column u ys
      → column u (after_steps writing sets steps (first_work xs (vertex_scope u))).vectors ≡ column u (after_steps writing sets steps (first_work ys (vertex_scope u))).vectors
  columns_alike steps xs ys local h =
      let r = steps_alike steps (first_work xs (vertex_scope u)) (first_work ys (vertex_scope u)) local (record { columns = h; scope = refl; source = refl; destination = refl }) in
      r.columns

-- a function at a vertex works alike where the entries of the vertex are the same
pub vertex_alike : (u : ℕ) (sets : List SetBinding) (steps : FunctionStatementsTree) (xs ys : List (List ℤ)) → steps_are_local steps ≡ true → column u xs ≡ column u ys
    → column u (after_vertex steps sets u xs) ≡ column u (after_vertex steps sets u ys)
vertex_alike u sets steps xs ys local h = columns_alike u sets _ (λ vector n w. refl) (λ vector r n w. refl) steps xs ys local h
