-- Proofs of `changes_decide`, src/laws.rt.
use Rattle.pages.proofs.Merging.{updated_ascends}
use Rattle.pages.proofs.Deciding.{updated_weight}
use Rattle.pages.proofs.laws.changes_decide.Goals as goal

pub returns-clause-ascending : goal.returns-clause-ascending
returns-clause-ascending c = updated_ascends 0

pub returns-clause-weights : goal.returns-clause-weights
returns-clause-weights c = λ xs updates v. updated_weight 0 v xs updates
