-- Proofs of `filtered_sets_have_the_members_that_pass`, src/members.rt.
use Rattle.meaning_laws.proofs.SetMembers.{filter_members, filter_of_all, filter_vertices}
use Rattle.meaning_laws.proofs.members.filtered_sets_have_the_members_that_pass.Goals as goal

pub returns-clause-members : goal.returns-clause-members
returns-clause-members c = filter_members

pub returns-clause-of_all : goal.returns-clause-of_all
returns-clause-of_all c = filter_of_all

pub returns-clause-ascending : goal.returns-clause-ascending
returns-clause-ascending c = filter_vertices
