-- Proofs of `over`, src/iter.rt.
use Rattle.ascending_lists.specs.Ascending.{least}
use Rattle.tail_codec.proofs.Lists.{spells_decoded}
use Rattle.tail_codec.proofs.iter.TailIter.over.Goals as goal

pub new-requires-clause-spelling : goal.new-requires-clause-spelling
new-requires-clause-spelling c = rw c.least_over.ensures.low (spells_decoded (least c.args.base) c.requires.0 c.args.bytes.now c.requires.1)

pub returns : goal.returns
returns c = rw (c.new.ensures, c.least_over.ensures.low) (spells_decoded (least c.args.base) c.requires.0 c.args.bytes.now c.requires.1)
