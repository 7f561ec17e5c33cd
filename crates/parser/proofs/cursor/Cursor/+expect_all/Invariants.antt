use Rattle.std.proofs.Common.{length}
use Rattle.parser.proofs.cursor.Cursor.+expect_all.Given as goal

abbrev pub decreases-expect_all : goal.decreases-expect_all
decreases-expect_all l = length l.tokens.now
