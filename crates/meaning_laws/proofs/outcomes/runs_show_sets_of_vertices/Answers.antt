-- Proofs of `runs_show_sets_of_vertices`, src/outcomes.rt.
use Rattle.meaning_laws.proofs.Sound.{shows_vertices}
use Rattle.meaning_laws.proofs.outcomes.runs_show_sets_of_vertices.Goals as goal

pub returns : goal.returns
returns c = shows_vertices
