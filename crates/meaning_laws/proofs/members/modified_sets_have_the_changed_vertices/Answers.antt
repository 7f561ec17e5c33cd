-- Proofs of `modified_sets_have_the_changed_vertices`, src/members.rt.
use Rattle.meaning_laws.proofs.SetMembers.{modified_members, modified_vertices}
use Rattle.meaning_laws.proofs.members.modified_sets_have_the_changed_vertices.Goals as goal

pub returns-clause-members : goal.returns-clause-members
returns-clause-members c = modified_members

pub returns-clause-ascending : goal.returns-clause-ascending
returns-clause-ascending c = modified_vertices
