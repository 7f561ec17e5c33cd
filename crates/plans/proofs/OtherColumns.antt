-- Functions that work on their own vertex leave other vertices alone.
use Rattle.std.proofs.Common.{◌≡◌, ℕ, ◌==◌, ◌&&◌, ℤ, Bool, true, false, cond, List, Option, ap, ◌∙◌, refl}
use Rattle.apply_options.specs.declared.reduction.Reduction.{Reduction}
use Rattle.typed_tree.specs.FunctionStatementTree.{FunctionStatementTree, DeclareInt, DeclareBool, SetInt, SetBool, ReduceInt, SetEntry, ReduceEntry, If, IfElse}
use Rattle.typed_tree.specs.FunctionStatementTree.{FunctionStatementsTree, NoStep, StepThen}
use Rattle.algorithm_meaning.specs.Arithmetic.{reduced}
use Rattle.algorithm_meaning.specs.State.{vertex_scope}
use Rattle.algorithm_meaning.specs.Value.{entry, with_entry, reduce_at, value, truth}
use Rattle.algorithm_meaning.specs.Function.{WorkValue, first_work, after_set, after_reduce, after_step, after_steps, after_block}
use Rattle.algorithm_meaning.specs.VertexSets.{after_vertex}
use Rattle.std.proofs.lemmas.Bool.{and_parts}
use Rattle.plans.specs.inside.Fusing.{condition_is_local, step_is_local, steps_are_local}
use Rattle.algorithm_meaning.specs.declared.state.SetBinding.{SetBinding}
use Rattle.plans.proofs.Columns.{column, column-elsewhere}
use Rattle.plans.proofs.Local.{IsAlike, step_alike}

either_column : (b : Bool) (v : ℕ) (x y : WorkValue) (os : List (Option ℤ)) → column v x.vectors ≡ os → column v y.vectors ≡ os → column v (cond b x y).vectors ≡ os
either_column true v x y os h k = h
either_column false v x y os h k = k

module _ (u v : ℕ) (apart : (u == v) ≡ false) (sets : List SetBinding) (writing : _)
    (sets_at_once : (vector : ℕ) (n : ℤ) (w : WorkValue) → after_set writing vector n w ≡ record w { vectors = with_entry w.vectors vector w.scope.source n })
    (reduces_at_once : (vector : ℕ) (r : Reduction) (n : ℤ) (w : WorkValue) → after_reduce writing vector r n w ≡ record w { vectors = reduce_at w.vectors vector w.scope.source r n }) where
  written_elsewhere : (w : WorkValue) → IsAlike u w w → (vector : ℕ) (x : ℤ) → column v (with_entry w.vectors vector w.scope.source x) ≡ column v w.vectors
  written_elsewhere w h vector x = ap (λ (y : ℕ). column v (with_entry w.vectors vector y x)) h.source ∙ column-elsewhere w.vectors vector u v x apart

  mutual
    after_step_elsewhere : (step : FunctionStatementTree) (w : WorkValue) → step_is_local step ≡ true → IsAlike u w w → column v (after_step writing sets step w).vectors ≡ column v w.vectors
    after_step_elsewhere (DeclareInt name e) w local h = refl
    after_step_elsewhere (DeclareBool name c) w local h = refl
    after_step_elsewhere (SetInt slot e) w local h = refl
    after_step_elsewhere (SetBool slot c) w local h = refl
    after_step_elsewhere (ReduceInt slot reduction e) w local h = refl
    after_step_elsewhere (SetEntry vector e) w local h =
        let x = value w.vectors sets w.scope e in
        ap (λ (z : WorkValue). column v z.vectors) (sets_at_once vector x w) ∙ written_elsewhere w h vector x
    after_step_elsewhere (ReduceEntry vector reduction e) w local h =
        let x = value w.vectors sets w.scope e in
        ap (λ (z : WorkValue). column v z.vectors) (reduces_at_once vector reduction x w)
        ∙ written_elsewhere w h vector (reduced reduction (entry w.vectors vector w.scope.source) x)
    after_step_elsewhere (If c body) w local h =
        let both = and_parts (condition_is_local c) (steps_are_local body) local in
        either_column (truth w.vectors sets w.scope c) v (after_block w (after_steps writing sets body w)) w (column v w.vectors) (after_steps_elsewhere body w both.1 h) refl
    after_step_elsewhere (IfElse c body other) w local h =
        let both = and_parts (condition_is_local c) (steps_are_local body && steps_are_local other) local in
        let blocks = and_parts (steps_are_local body) (steps_are_local other) both.1 in
        either_column (truth w.vectors sets w.scope c) v (after_block w (after_steps writing sets body w)) (after_block w (after_steps writing sets other w)) (column v w.vectors)
        (after_steps_elsewhere body w blocks.0 h) (after_steps_elsewhere other w blocks.1 h)

    after_steps_elsewhere : (steps : FunctionStatementsTree) (w : WorkValue) → steps_are_local steps ≡ true → IsAlike u w w → column v (after_steps writing sets steps w).vectors ≡ column v w.vectors
    after_steps_elsewhere NoStep w local h = refl
    after_steps_elsewhere (StepThen step rest) w local h =
        let both = and_parts (step_is_local step) (steps_are_local rest) local in
        after_steps_elsewhere rest (after_step writing sets step w) both.1 (step_alike u sets writing sets_at_once reduces_at_once step w w both.0 h)
        ∙ after_step_elsewhere step w both.0 h

  column_elsewhere : (steps : FunctionStatementsTree) (vectors : List (List ℤ)) → steps_are_local steps ≡ true
      → column v (after_steps writing sets steps (first_work vectors (vertex_scope u))).vectors ≡ column v vectors
  column_elsewhere steps vectors local = after_steps_elsewhere steps (first_work vectors (vertex_scope u)) local (record { columns = refl; scope = refl; source = refl; destination = refl })

pub vertex_elsewhere : (u v : ℕ) → (u == v) ≡ false → (sets : List SetBinding) (steps : FunctionStatementsTree) (vectors : List (List ℤ)) → steps_are_local steps ≡ true
    → column v (after_vertex steps sets u vectors) ≡ column v vectors
vertex_elsewhere u v apart sets steps vectors local = column_elsewhere u v apart sets _ (λ vector n w. refl) (λ vector r n w. refl) steps vectors local
