-- Proofs of `sources_stand_in_the_text`, src/source.rt.
use Rattle.parser.proofs.Offsets.{source_within}
use Rattle.parser.proofs.source.sources_stand_in_the_text.Goals as goal

pub returns : goal.returns
returns c = source_within
