-- Proofs of `histories_are_counted`, src/laws.rt.
use Rattle.version_list.proofs.Counting.{opened_counts, trim_is_answered}
use Rattle.version_list.proofs.laws.histories_are_counted.Goals as goal

pub returns-clause-few : goal.returns-clause-few
returns-clause-few c = opened_counts

pub returns-clause-trims : goal.returns-clause-trims
returns-clause-trims c = trim_is_answered
