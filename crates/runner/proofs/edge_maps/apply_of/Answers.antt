-- Proofs of `apply_of`, src/edge_maps.rt.
use Rattle.std.proofs.Common.{sym, subst, slice_get, refl}
use Rattle.algorithm_meaning.specs.Function.{steps_of}
use Rattle.kernels.specs.Kernels.{IsEdgeKernel}
use Rattle.runner.proofs.edge_maps.apply_of.Goals as goal

pub returns : goal.returns
returns c = record {
  graph = refl;
  vectors = refl;
  sizes = refl;
  first = c.get.ensures;
  second = c.second_kernel.ensures.same;
  from = c.end_of.ensures.end;
  to = c.end_of-2.ensures.end;
  parts = λ p m functions sets.
      let index = c.args.asked.first in
      let first = subst (λ k. IsEdgeKernel k (steps_of (slice_get p.edge_functions index))) (sym c.get.ensures) (functions.edge index) in (
        c.second_kernel.ensures.kernels p c.get.result.now index functions first,
        c.end_of.ensures.test p m functions sets,
        c.end_of-2.ensures.test p m functions sets,
      );
}
