-- Proofs of `unions_have_what_either_has`, src/laws.rt.
use Rattle.ascending_lists.proofs.Unions.{union_ascends}
use Rattle.ascending_lists.proofs.Membership.{union_members}
use Rattle.ascending_lists.proofs.laws.unions_have_what_either_has.Goals as goal

pub returns-clause-ascending : goal.returns-clause-ascending
returns-clause-ascending c = union_ascends 0

pub returns-clause-members : goal.returns-clause-members
returns-clause-members c = union_members
