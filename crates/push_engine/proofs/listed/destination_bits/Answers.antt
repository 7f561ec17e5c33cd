-- Proofs of `destination_bits`, src/listed.rt.
use Rattle.std.proofs.Common.{Option, subst}
use Rattle.std.proofs.lemmas.Option.{IfSome_then}
use Rattle.std.proofs.lemmas.Result.{IfOk-weaker}
use Rattle.kernels.specs.declared.endpoint_filter.EndpointFilter.{EndpointFilter}
use Rattle.edge_fold.specs.Ends.{IsEndTest}
use Rattle.push_engine.proofs.listed.destination_bits.Goals as goal

pub returns-clause-passing : goal.returns-clause-passing
returns-clause-passing c =
    IfOk-weaker c.bits_of_end.result _ _
    (λ b some. IfSome_then b some (λ s passing m to vectors sizes is v l. passing m to vectors sizes (subst (λ (o : Option EndpointFilter). IsEndTest o m to) c.in-Some.is is) v l))
    c.bits_of_end.ensures.passing
