-- Proofs of `last_line`, src/pieces.rt.
use Rattle.scripts.proofs.PieceLaws.{lines_of-ended, HasNone-unended}
use Rattle.scripts.proofs.pieces.last_line.Goals as goal

pub returns : goal.returns
returns c = λ text. record { lines = lines_of-ended text; unended = HasNone-unended text }
