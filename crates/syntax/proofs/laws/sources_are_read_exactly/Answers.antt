-- Proofs of `sources_are_read_exactly`, src/laws.rt.
use Rattle.syntax.proofs.SourcesExact.{sources_sound, sources_complete}
use Rattle.syntax.proofs.laws.sources_are_read_exactly.Goals as goal

pub returns-clause-sound : goal.returns-clause-sound
returns-clause-sound c = sources_sound

pub returns-clause-complete : goal.returns-clause-complete
returns-clause-complete c = sources_complete
