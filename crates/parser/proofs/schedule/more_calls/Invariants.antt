use Rattle.std.proofs.Common.{length, map}
use Rattle.parser.specs.inside.Readers.{terminals}
use Rattle.syntax.proofs.Loops.{Goes}
use Rattle.syntax.specs.SourceReading.{next_call}
use Rattle.syntax.specs.SourceViews.{call_tree}
use Rattle.parser.proofs.schedule.more_calls.Given as goal

abbrev pub invariant-calls : goal.invariant-calls
invariant-calls l = Goes next_call (terminals l.cursor) (map call_tree l.calls.items) (terminals l.left)

abbrev pub decreases-calls : goal.decreases-calls
decreases-calls l = length (terminals l.left)
