-- Proofs of `iter`, src/tail.rt.
use Rattle.std.proofs.Common.{subst}
use Rattle.tail_codec.specs.Spelling.{IsBasedList}
use Rattle.tail_codec.proofs.tail.Tail.iter.Goals as goal

pub returns-clause-valid : goal.returns-clause-valid
returns-clause-valid c = subst IsBasedList c.self.view_is c.self.invariant.1.ascending
