-- Proofs of `hybrid_sources`, src/direction.rt.
use Rattle.std.proofs.Common.{Option, ap, sym, subst, ◌∙◌, arith}
use Rattle.kernels.specs.Registers.{HasSizes}
use Rattle.kernels.specs.declared.endpoint_filter.EndpointFilter.{EndpointFilter}
use Rattle.edge_fold.specs.declared.apply_context.ApplyContext.{ApplyContext}
use Rattle.edge_fold.specs.Ends.{IsEndTest}
use Rattle.runner.proofs.direction.hybrid_sources.Goals as goal

pub returns-in_ok-passing-in-Filter : goal.returns-in_ok-passing-in-Filter
returns-in_ok-passing-in-Filter c =
    let context = c.context-context.ensures.context in
    let found = c.in_ok-passing-in-Filter in
    record {
      graph = c.context-context.ensures.graph;
      members = λ m from vectors sizes is v l.
          found.ensures.members m from (ap (λ (f : ApplyContext). f.vectors.now.vectors) context ∙ vectors)
          (subst (λ (f : ApplyContext). HasSizes f.sizes.now m) (sym context) sizes)
          (subst (λ (o : Option EndpointFilter). IsEndTest o m from) c.in-Some.is is) v (omega (arith, ap (λ (f : ApplyContext). f.vertices) context, l));
    }
