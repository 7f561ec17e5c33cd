-- Proofs of `members_in_words`, src/ranges.rt.
use Rattle.edge_apply.proofs.Bits.{words_have_members}
use Rattle.pull_engine.proofs.ranges.members_in_words.Goals as goal

pub returns-in-Some-clause-members : goal.returns-in-Some-clause-members
returns-in-Some-clause-members c v = words_have_members c.args.set.now c.in-Some.words.now c.in-Some.ensures.members v
