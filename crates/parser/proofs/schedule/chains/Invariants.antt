use Rattle.std.proofs.Common.{length, map}
use Rattle.parser.specs.inside.Readers.{terminals}
use Rattle.syntax.proofs.Loops.{Goes}
use Rattle.syntax.specs.SourceReading.{next_chain}
use Rattle.syntax.specs.SourceViews.{chain_tree}
use Rattle.parser.proofs.schedule.chains.Given as goal

abbrev pub invariant-chains : goal.invariant-chains
invariant-chains l = Goes next_chain (terminals l.cursor) (map chain_tree l.chains.items) (terminals l.left)

abbrev pub decreases-chains : goal.decreases-chains
decreases-chains l = length (terminals l.left)
