-- Proofs of `applies_look_at_the_edges_between_their_ends`, src/members.rt.
use Rattle.meaning_laws.proofs.SetMembers.{matching_edges}
use Rattle.meaning_laws.proofs.members.applies_look_at_the_edges_between_their_ends.Goals as goal

pub returns : goal.returns
returns c = matching_edges
