-- Proofs of `vectors_are_in_one_group`, src/laws.rt.
use Rattle.schedule.proofs.Groups.{accepted_groups_are_distinct}
use Rattle.schedule.proofs.laws.vectors_are_in_one_group.Goals as goal

pub returns : goal.returns
returns c = accepted_groups_are_distinct
