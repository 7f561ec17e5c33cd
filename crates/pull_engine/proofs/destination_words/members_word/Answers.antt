-- Proofs of `members_word`, src/destination_words.rt.
use Rattle.std.proofs.Common.{◌∙◌}
use Rattle.edge_apply.proofs.Bits.{words_have_members}
use Rattle.pull_engine.proofs.destination_words.members_word.Goals as goal

pub returns : goal.returns
returns c v at = c.word_at.ensures v at ∙ words_have_members c.args.set.now c.in-Some.words.now c.in-Some.ensures.members v
