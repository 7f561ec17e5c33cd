-- Proofs of `end_in_bits`, src/push_end.rt.
use Rattle.std.proofs.Common.{refl, sym, ap, subst, ◌∙◌, arith}
use Rattle.std.proofs.lemmas.Result.{IfOk-weaker}
use Rattle.kernels.specs.Registers.{HasSizes}
use Rattle.kernels.specs.declared.endpoint_filter.EndpointFilter.{EndpointFilter}
use Rattle.edge_fold.specs.Ends.{IsTest}
use Rattle.edge_fold.specs.declared.apply_context.ApplyContext.{ApplyContext}
use Rattle.edge_apply.proofs.Filtered.{and_true}
use Rattle.push_engine.proofs.push_end.end_in_bits.Goals as goal

pub returns-in-Members-clause-lets : goal.returns-in-Members-clause-lets
returns-in-Members-clause-lets c =
    IfOk-weaker c.members_in_bits.result _ _
    (λ d lets m test vectors sizes is. lets c.args.apply.now.flat.now.vertices m test (subst (λ (e : EndpointFilter). IsTest e m test) c.in-Members.is is))
    c.members_in_bits.ensures.lets

pub returns-in_ok-passing-in-Filter-clause-lets : goal.returns-in_ok-passing-in-Filter-clause-lets
returns-in_ok-passing-in-Filter-clause-lets c m test vectors sizes is =
    let context = c.context-context.ensures.context in
    let found = c.in_ok-passing-in-Filter.ensures.members m test (ap (λ (f : ApplyContext). f.vectors.now.vectors) context ∙ vectors)
    (subst (λ (f : ApplyContext). HasSizes f.sizes.now m) (sym context) sizes) is in
    record {
      untested = λ v. refl;
      both = λ v l. and_true _ ∙ found v (omega (arith, ap (λ (f : ApplyContext). f.vertices) context, l));
    }
