-- Proofs of `versions_are_numbered_in_order`, src/laws.rt.
use Rattle.version_laws.proofs.NumberLaws.{versions_of_history, newest_of_history, versions_of_steps}
use Rattle.version_laws.proofs.laws.versions_are_numbered_in_order.Goals as goal

pub returns-clause-history : goal.returns-clause-history
returns-clause-history c = versions_of_history

pub returns-clause-newest : goal.returns-clause-newest
returns-clause-newest c = newest_of_history

pub returns-clause-replies : goal.returns-clause-replies
returns-clause-replies c = versions_of_steps
