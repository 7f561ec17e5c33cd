-- Proofs of `destinations_of`, src/push_end.rt.
use Rattle.std.proofs.Common.{Option, refl, sym, subst}
use Rattle.kernels.specs.declared.endpoint_filter.EndpointFilter.{EndpointFilter}
use Rattle.edge_fold.specs.Ends.{IsEndTest}
use Rattle.push_engine.proofs.push_end.destinations_of.Goals as goal

pub returns-in_default-clause-lets : goal.returns-in_default-clause-lets
returns-in_default-clause-lets c m to vectors sizes is =
    let all = subst (λ (o : Option EndpointFilter). IsEndTest o m to) c.in_default.is is in
    record { untested = λ v. refl; both = λ v l. sym (all v) }
