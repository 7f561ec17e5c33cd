-- Proofs of `edge_applies_go_by_the_schedule`, src/laws.rt.
use Rattle.plans.proofs.Origins.{go_by_schedule}
use Rattle.plans.proofs.laws.edge_applies_go_by_the_schedule.Goals as goal

pub returns : goal.returns
returns c = go_by_schedule
