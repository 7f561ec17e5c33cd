-- Proofs of `set_of`, src/state.rt.
use Rattle.std.proofs.Common.{ℤ, List, slice_get, refl, ap, sym, subst, ◌∙◌}
use Rattle.std.specs.List.{filter}
use Rattle.typed_tree.specs.ProgramTree.{ProgramTree}
use Rattle.algorithm_meaning.specs.Function.{filtered, result_of, steps_of}
use Rattle.algorithm_meaning.specs.State.{GraphValue, StateValue}
use Rattle.algorithm_meaning.specs.Value.{members_of}
use Rattle.algorithm_meaning.specs.VertexSets.{members_for}
use Rattle.kernels.specs.Registers.{HasSizes}
use Rattle.kernels.specs.declared.kernel.FilterKernel.{FilterKernel}
use Rattle.kernels.specs.Kernels.{IsFilterKernel}
use Rattle.plans.specs.declared.set_expression.SetExpression.{SetExpression}
use Rattle.plans.specs.Operation.{AreFunctionKernels, set_value}
use Rattle.vertex_sets.specs.VertexSet.{VertexSubset}
use Rattle.run_state.specs.State.{RunState}
use Rattle.run_state.proofs.Runs.{has_sizes, if_ok_more}
use Rattle.run_state.proofs.state.State.set_of.Goals as goal

pub returns-in-Some-get-clause-members : goal.returns-in-Some-get-clause-members
returns-in-Some-get-clause-members c =
    let s = c.self.inside in
    let now = c.args.self.now in
    let slot = c.in-Filter.slot in
    let function = c.in-Filter.function in
    let m : StateValue = record s.sets.state { vectors = s.vectors.vectors } in
    let has : HasSizes c.sizes.result.now m = subst (λ (zs : List ℤ). HasSizes zs m) (sym c.sizes.ensures) (has_sizes m) in
    if_ok_more c.filtered.result _ _
    (λ (set : VertexSubset) given (p : ProgramTree) (g : GraphValue) (are : AreFunctionKernels c.args.functions.now p) many.
    let steps = steps_of (slice_get p.filters function) in
    let is : IsFilterKernel c.get-filter.result.now steps = subst (λ (k : FilterKernel). IsFilterKernel k steps) (sym c.get-filter.ensures) (are.filter function) in
    given steps m is refl has
    ∙ ap (filter (result_of steps m.sets m.vectors)) c.in-Some-get.ensures.members
    ∙ ap (λ (r : RunState). filtered p.filters function r.state.sets r.state.vectors (members_of (slice_get r.state.sets slot.index))) c.self.view_is
    ∙ sym (ap (λ (ms : SetExpression). members_for p g (set_value ms) now.state) c.in-Filter.is))
    c.filtered.ensures.members
