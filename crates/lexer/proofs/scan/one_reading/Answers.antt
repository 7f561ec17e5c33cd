-- Proofs of `one_reading`, src/scan.rt.
use Rattle.lexer.proofs.ReadingLaws.{reads_unique}
use Rattle.lexer.proofs.scan.one_reading.Goals as goal

pub returns : goal.returns
returns c = reads_unique
