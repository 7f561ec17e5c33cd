-- Proofs of `of`, src/source_words.rt.
use Rattle.std.proofs.Common.{Option, sym, ◌∙◌, subst}
use Rattle.kernels.specs.declared.endpoint_filter.EndpointFilter.{EndpointFilter}
use Rattle.edge_fold.specs.Ends.{IsEndTest, IsTest}
use Rattle.edge_apply.proofs.Bits.{words_have_members}
use Rattle.pull_engine.proofs.source_words.SourceWords.of.Goals as goal

pub returns-in-Some-words-clause-passing : goal.returns-in-Some-words-clause-passing
returns-in-Some-words-clause-passing c m test vectors sizes is v l =
    let members = subst (λ (e : EndpointFilter). IsTest e m test) c.in-Members.is (subst (λ (o : Option EndpointFilter). IsEndTest o m test) c.in-Some.is is) in
    words_have_members c.in-Members.set.now c.in-Some-words.words.now c.in-Some-words.ensures.members v ∙ sym (members v)
