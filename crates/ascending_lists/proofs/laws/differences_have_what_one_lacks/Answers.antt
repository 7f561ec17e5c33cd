-- Proofs of `differences_have_what_one_lacks`, src/laws.rt.
use Rattle.ascending_lists.proofs.Differences.{difference_ascends}
use Rattle.ascending_lists.proofs.Membership.{difference_members}
use Rattle.ascending_lists.proofs.laws.differences_have_what_one_lacks.Goals as goal

pub returns-clause-ascending : goal.returns-clause-ascending
returns-clause-ascending c = difference_ascends 0

pub returns-clause-members : goal.returns-clause-members
returns-clause-members c = difference_members
