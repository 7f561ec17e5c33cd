use Rattle.std.proofs.Common.{length, ◌-◌}
use Rattle.lexer.proofs.ReadingLaws.{IsReadTo}
use Rattle.lexer.proofs.scan.tokens.Given as goal

abbrev pub invariant-loop-at : goal.invariant-loop-at
invariant-loop-at l = IsReadTo l.source l.at l.tokens.items

abbrev pub decreases-loop-at : goal.decreases-loop-at
decreases-loop-at l = length l.source - l.at
