-- Proofs of `bits_of_end`, src/listed.rt.
use Rattle.std.proofs.Common.{ap, sym, ◌∙◌, subst, arith}
use Rattle.kernels.specs.EdgeApply.{is_member}
use Rattle.kernels.specs.Registers.{HasSizes}
use Rattle.kernels.specs.declared.endpoint_filter.EndpointFilter.{EndpointFilter}
use Rattle.vertex_sets.specs.VertexSet.{VertexSubset}
use Rattle.edge_fold.specs.Ends.{IsTest}
use Rattle.edge_fold.specs.declared.apply_context.ApplyContext.{ApplyContext}
use Rattle.push_engine.proofs.listed.bits_of_end.Goals as goal

pub returns-in_ok-bits-in-Members-clause-passing : goal.returns-in_ok-bits-in-Members-clause-passing
returns-in_ok-bits-in-Members-clause-passing c m test vectors sizes is v l =
    ap (λ (s : VertexSubset). is_member v s.members) c.in_ok-bits-in-Members.ensures ∙ sym (subst (λ (e : EndpointFilter). IsTest e m test) c.in-Members.is is v)

pub returns-in_ok-bits-in-Filter-clause-passing : goal.returns-in_ok-bits-in-Filter-clause-passing
returns-in_ok-bits-in-Filter-clause-passing c m test vectors sizes is v l =
    let context = c.context-context.ensures.context in
    c.in_ok-bits-in-Filter.ensures.members m test (ap (λ (f : ApplyContext). f.vectors.now.vectors) context ∙ vectors)
    (subst (λ (f : ApplyContext). HasSizes f.sizes.now m) (sym context) sizes) is v (omega (arith, ap (λ (f : ApplyContext). f.vertices) context, l))
