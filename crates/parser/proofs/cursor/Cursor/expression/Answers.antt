-- Proofs of `expression`, src/front.rt.
use Rattle.syntax.specs.SourceReading.{expression}
use Rattle.parser.proofs.cursor.Cursor.expression.Goals as goal

-- what may be open at once is what an expression may hold in itself
pub returns-clause-reads : goal.returns-clause-reads
unfolding expression
returns-clause-reads c = c.read_expression.ensures.reads
