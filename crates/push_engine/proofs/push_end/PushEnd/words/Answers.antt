-- Proofs of `words`, src/push_end.rt.
use Rattle.std.proofs.Common.{sym, ap, ◌∙◌, subst}
use Rattle.push_engine.specs.declared.push_end.PushEnd.{PushEnd}
use Rattle.push_engine.specs.inside.PushEnds.{IsInBits, passes_bits}
use Rattle.push_engine.proofs.EndTests.{words_of_members}
use Rattle.push_engine.proofs.push_end.PushEnd.words.Goals as goal

pub returns-in-Members : goal.returns-in-Members
returns-in-Members c v =
    words_of_members c.in-Members.set c.words.result c.words.ensures.form c.words.ensures.members (subst IsInBits c.in-Members.is c.requires) v
    ∙ sym (ap (λ (e : PushEnd). passes_bits e v) c.in-Members.is)
