-- Proofs of `body`, src/declaration.rt.
use Rattle.syntax.specs.SourceReading.{block}
use Rattle.parser.proofs.declaration.body.Goals as goal

-- what may be open at once is how many blocks may stand in each other
pub returns-clause-reads : goal.returns-clause-reads
unfolding block
returns-clause-reads c = c.block.ensures.reads
