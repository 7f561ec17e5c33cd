use Rattle.std.proofs.Common.{◌+◌, ◌*◌, length, map}
use Rattle.parser.specs.inside.Readers.{terminals}
use Rattle.syntax.proofs.Loops.{Goes}
use Rattle.syntax.specs.SourceReading.{next_statement}
use Rattle.syntax.specs.inside.SourceViews.{statement_of}
use Rattle.parser.specs.inside.Blocks.{action_at}
use Rattle.parser.proofs.block.+read.Given as goal

abbrev pub decreases-inner : goal.decreases-inner
decreases-inner l = 8 * l.depth + 0

abbrev pub decreases-to_end : goal.decreases-to_end
decreases-to_end l = 8 * l.depth + 1

abbrev pub decreases-otherwise : goal.decreases-otherwise
decreases-otherwise l = 8 * l.depth + 2

abbrev pub decreases-while_loop : goal.decreases-while_loop
decreases-while_loop l = 8 * l.depth + 2

abbrev pub decreases-for_loop : goal.decreases-for_loop
decreases-for_loop l = 8 * l.depth + 2

abbrev pub decreases-choice : goal.decreases-choice
decreases-choice l = 8 * l.depth + 3

abbrev pub decreases-opened : goal.decreases-opened
decreases-opened l = 8 * l.depth + 4

abbrev pub decreases-action : goal.decreases-action
decreases-action l = 8 * l.depth + 5

abbrev pub decreases-statement : goal.decreases-statement
decreases-statement l = 8 * l.depth + 6

abbrev pub decreases-block : goal.decreases-block
decreases-block l = 8 * l.depth + 7

abbrev pub invariant-block-statements : goal.invariant-block-statements
invariant-block-statements l = Goes (next_statement (action_at l.depth)) (terminals l.cursor) (map statement_of l.statements.items) (terminals l.left)

abbrev pub decreases-block-statements : goal.decreases-block-statements
decreases-block-statements l = length (terminals l.left)
