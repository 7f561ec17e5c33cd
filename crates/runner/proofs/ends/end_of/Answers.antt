-- Proofs of `end_of`, src/ends.rt.
use Rattle.std.proofs.Common.{rules, ◌≡◌, ap, sym, subst, slice_get, Some}
use Rattle.typed_tree.specs.declared.statement.VertexFilter.TheVariants as end
use Rattle.algorithm_meaning.specs.EdgeApply.{passes}
use Rattle.algorithm_meaning.specs.Function.{steps_of}
use Rattle.kernels.specs.Kernels.{IsFilterKernel}
use Rattle.runner.proofs.ends.end_of.Goals as goal

pub returns-in-Some-Function-clause-test : goal.returns-in-Some-Function-clause-test
returns-in-Some-Function-clause-test c p m functions sets =
    let index = c.in-Some-Function.index in
    let named : c.args.end ≡ Some (end.Function index) = search rules in
    record {
      steps = steps_of (slice_get p.filters index);
      of = subst (λ k. IsFilterKernel k (steps_of (slice_get p.filters index))) (sym c.get-in-Some-Function.ensures) (functions.filter index);
      result = λ v. ap (λ e. passes p.filters m e v) named;
    }
