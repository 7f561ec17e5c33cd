-- What is true of each state of a run.
use Rattle.std.proofs.Common.{◌≡◌, ℕ, ℤ, pos, Bool, List, [], Option, Some, None, Result, Ok, Err, IfOk, OnOk, take, slice_get, unwrap_or, ap, sym, ◌∙◌, refl, subst}
use Rattle.std.specs.Option.{option_map}
use Rattle.std.proofs.lemmas.Option.{slice_get-map, unwrap_or-slice_get}
use Rattle.std.proofs.lemmas.List.{take-map}
use Rattle.algorithm_meaning.specs.State.{GraphValue, StateValue}
use Rattle.algorithm_meaning.specs.Value.{members_of}
use Rattle.algorithm_meaning.specs.VertexSets.{vectors_after}
use Rattle.typed_tree.specs.ProgramTree.{ProgramTree}
use Rattle.plans.specs.declared.set_expression.SetExpression.{SetExpression}
use Rattle.plans.specs.declared.set_expression.SetExpression.TheVariants.{Nothing, All, Copy, Filter}
use Rattle.plans.specs.Operation.{set_value}
use Rattle.kernels.specs.Registers.{HasSizes}
use Rattle.vectors.specs.Vectors.{VectorsValue}
use Rattle.run_state.specs.State.{IsRunState, RunState}
use Rattle.run_state.specs.inside.NamedSets.{AreAscending, HaveLength, run_state, size_of, sizes_of, with_first_sets}
use Rattle.run_state.proofs.Lengths.{length_at}

-- a fact of what came out holds where another follows from it
pub if_ok_more : {T E : Type 0} (r : Result T E) (P Q : T → Type 0) → ((v : T) → P v → Q v) → IfOk r P → IfOk r Q
if_ok_more (Ok v) P Q more is = more v is
if_ok_more (Err e) P Q more is = tt

pub on_ok_more : {T E : Type 0} (r : Result T E) (P Q : Type 0) → (P → Q) → OnOk r P → OnOk r Q
on_ok_more (Ok v) P Q more is = more is
on_ok_more (Err e) P Q more is = tt

-- a set value that applies nothing leaves the vectors
pub no_vectors : (p : ProgramTree) (g : GraphValue) (members : SetExpression) (s : StateValue) → vectors_after p g (set_value members) s ≡ s.vectors
no_vectors p g Nothing s = refl
no_vectors p g All s = refl
no_vectors p g (Copy slot) s = refl
no_vectors p g (Filter slot function) s = refl

pub is_run_state : (vectors : VectorsValue) (sets : RunState) (integers : List ℤ) (conditions : List Bool) (text : List ℕ) (turns count : ℕ) → HaveLength count sets.vertices vectors.vectors
    → AreAscending sets
    → IsRunState (run_state vectors sets integers conditions text turns)
is_run_state vectors sets integers conditions text turns count have ascending = record {
  vectors = length_at sets.vertices count vectors.vectors have;
  sets = ascending;
  source = refl;
  destination = refl;
  weight = refl;
}

nothing_counted : pos 0 ≡ size_of []
nothing_counted = refl

-- the sizes of sets are those of a state
pub has_sizes : (s : StateValue) → HasSizes (sizes_of s) s
has_sizes s p =
    sym (unwrap_or-slice_get (sizes_of s) p (pos 0))
    ∙ ap (λ (o : Option ℤ). unwrap_or o (pos 0)) (slice_get-map (λ set. size_of set.members) s.sets p)
    ∙ elim (slice_get s.sets p) as (λ o. unwrap_or (option_map (λ set. size_of set.members) o) (pos 0) ≡ size_of (members_of o)) [ None ↦ nothing_counted | Some set ↦ refl ]

pub has_first_sizes : (s : StateValue) (k : ℕ) (sizes : List ℤ) → sizes ≡ take k (sizes_of s) → HasSizes sizes (with_first_sets k s)
has_first_sizes s k sizes e =
    subst (λ (zs : List ℤ). HasSizes zs (with_first_sets k s)) (sym (e ∙ take-map (λ set. size_of set.members) k s.sets)) (has_sizes (with_first_sets k s))
