-- Proofs of `apply`, src/state.rt.
use Rattle.std.proofs.Common.{ℕ, ℤ, List, slice_get, refl, ap, ap₂, sym, subst, ◌∙◌}
use Rattle.algorithm_meaning.specs.Statements.{with_vectors}
use Rattle.algorithm_meaning.specs.State.{StateValue}
use Rattle.algorithm_meaning.specs.Value.{members_of}
use Rattle.algorithm_meaning.specs.VertexSets.{after_vertices}
use Rattle.kernels.specs.Registers.{HasSizes}
use Rattle.run_state.specs.inside.NamedSets.{HaveLength, run_state}
use Rattle.run_state.specs.State.{RunState, with_state}
use Rattle.run_state.proofs.Lengths.{after_apply}
use Rattle.run_state.proofs.Runs.{has_sizes}
use denote.Struct.Props.{props}
use Rattle.std.proofs.Math.Logic.{∥∥₁_elim}
use Rattle.run_state.proofs.state.State.apply.Goals as goal

pub invariant_of-self : goal.invariant_of-self
invariant_of-self c =
    let s = c.self.inside in
    let m : StateValue = record s.sets.state { vectors = s.vectors.vectors } in
    let has : HasSizes c.sizes.result.now m = subst (λ (zs : List ℤ). HasSizes zs m) (sym c.sizes.ensures) (has_sizes m) in
    ∥∥₁_elim c.requires.known (hlevel props) (λ known.
    subst (HaveLength s.vector_count s.sets.vertices) (sym (c.run_for_all.ensures.vectors known.steps m known.code refl has))
    (after_apply s.vector_count s.sets.vertices m c.sizes.result.now c.args.kernel.now.code.items known.steps has known.code c.iter.result s.vectors.vectors c.self.invariant))

pub returns-in-Some-clause-applied : goal.returns-in-Some-clause-applied
returns-in-Some-clause-applied c = λ steps code.
    let s = c.self.inside in
    let index = c.args.set in
    let m : StateValue = record s.sets.state { vectors = s.vectors.vectors } in
    let has : HasSizes c.sizes.result.now m = subst (λ (zs : List ℤ). HasSizes zs m) (sym c.sizes.ensures) (has_sizes m) in
    let whole = λ (vectors : List (List ℤ)) (groups : List (List ℕ)).
    run_state (record { vectors = vectors; groups = groups }) s.sets s.integers.items s.conditions.items s.text.items s.turns in
    ap₂ whole (c.run_for_all.ensures.vectors steps m code refl has) c.run_for_all.ensures.groups
    ∙ ap (λ (us : List ℕ). whole (after_vertices steps m.sets us s.vectors.vectors) s.vectors.groups) (c.iter.ensures.members ∙ c.in-Some.ensures.members)
    ∙ ap (λ (r : RunState). with_state r (with_vectors r.state (after_vertices steps r.state.sets (members_of (slice_get r.state.sets index)) r.state.vectors))) c.self.view_is
