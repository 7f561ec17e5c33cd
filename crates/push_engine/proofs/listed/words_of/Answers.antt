-- Proofs of `words_of`, src/listed.rt.
use Rattle.std.proofs.Common.{sym, ◌∙◌, subst}
use Rattle.std.proofs.lemmas.Option.{IfSome_then}
use Rattle.kernels.specs.declared.endpoint_filter.EndpointFilter.{EndpointFilter}
use Rattle.edge_fold.specs.Ends.{IsTest}
use Rattle.edge_apply.proofs.Bits.{words_have_members}
use Rattle.push_engine.proofs.listed.words_of.Goals as goal

pub returns-in-Members : goal.returns-in-Members
returns-in-Members c =
    IfSome_then c.words.result c.words.ensures.members
    (λ words are m test is v. words_have_members c.in-Members.set.now words.now are v ∙ sym (subst (λ (e : EndpointFilter). IsTest e m test) c.in-Members.is is v))
