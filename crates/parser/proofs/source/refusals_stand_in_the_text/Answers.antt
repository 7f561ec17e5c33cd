-- Proofs of `refusals_stand_in_the_text`, src/source.rt.
use Rattle.parser.proofs.Offsets.{stands_in}
use Rattle.parser.proofs.source.refusals_stand_in_the_text.Goals as goal

pub returns : goal.returns
returns c = stands_in
