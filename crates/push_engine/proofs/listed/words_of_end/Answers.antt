-- Proofs of `words_of_end`, src/listed.rt.
use Rattle.std.proofs.Common.{Option, subst}
use Rattle.std.proofs.lemmas.Option.{IfSome_then}
use Rattle.kernels.specs.declared.endpoint_filter.EndpointFilter.{EndpointFilter}
use Rattle.edge_fold.specs.Ends.{IsEndTest}
use Rattle.push_engine.proofs.listed.words_of_end.Goals as goal

pub returns-in-Some : goal.returns-in-Some
returns-in-Some c =
    IfSome_then c.words_of.result c.words_of.ensures (λ words are m test is v. are m test (subst (λ (o : Option EndpointFilter). IsEndTest o m test) c.in-Some.is is) v)
