-- Proofs of `terminals_are_read_back`, src/terminals.rt.
use Rattle.source_text.proofs.Reading.{text_of-HasTerminals}
use Rattle.source_text.proofs.terminals.terminals_are_read_back.Goals as goal

pub returns : goal.returns
returns c = text_of-HasTerminals
