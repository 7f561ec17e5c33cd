-- Proofs of `has_only_ones`, src/merging.rt.
use Rattle.tail_codec.proofs.MapOnes.{both_ones, first_ones}
use Rattle.tail_codec.proofs.merging.has_only_ones.Goals as goal

pub returns-then-has_only_ones : goal.returns-then-has_only_ones
returns-then-has_only_ones c = λ yes. rw c.in-Union.is (both_ones c.args.first.now c.args.second.now (c.has_only_ones.ensures c.if-has_only_ones.true) (c.has_only_ones-then-has_only_ones.ensures yes))

pub returns-in-Difference : goal.returns-in-Difference
returns-in-Difference c = λ yes. rw c.in-Difference.is (first_ones c.args.first.now c.args.second.now (c.has_only_ones-in-Difference.ensures yes))
