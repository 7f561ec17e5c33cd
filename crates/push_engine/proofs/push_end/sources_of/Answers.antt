-- Proofs of `sources_of`, src/push_end.rt.
use Rattle.std.proofs.Common.{Option, Some, ap, ◌∙◌, subst}
use Rattle.std.proofs.lemmas.Result.{IfOk-weaker}
use Rattle.kernels.specs.declared.endpoint_filter.EndpointFilter.{EndpointFilter}
use Rattle.edge_fold.specs.Ends.{IsEndTest}
use Rattle.push_engine.proofs.push_end.sources_of.Goals as goal

pub returns-then-eq-clause-lets : goal.returns-then-eq-clause-lets
returns-then-eq-clause-lets c =
    IfOk-weaker c.members_in_bits.result _ _
    (λ e lets n m from is. lets n m from (subst (λ (o : Option EndpointFilter). IsEndTest o m from) (c.in-Some.is ∙ ap Some c.in-Members.is) is))
    c.members_in_bits.ensures.lets
