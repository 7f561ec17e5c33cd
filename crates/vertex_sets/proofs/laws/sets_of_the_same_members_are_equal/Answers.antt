-- Proofs of `sets_of_the_same_members_are_equal`, src/laws.rt.
use Rattle.vertex_sets.proofs.Ascending.{same_sets}
use Rattle.vertex_sets.proofs.laws.sets_of_the_same_members_are_equal.Goals as goal

pub returns : goal.returns
returns c = same_sets
