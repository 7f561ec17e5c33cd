-- Proofs of `words_name_edge_applies`, src/names.rt.
use Rattle.plan_laws.proofs.Named.{edges_are}
use Rattle.plan_laws.proofs.names.words_name_edge_applies.Goals as goal

pub returns : goal.returns
returns c = edges_are
