-- Proofs of `what_ends_goes_no_further`, src/laws.rt.
use Rattle.syntax.proofs.FirstTerminals.{ends_expression}
use Rattle.syntax.proofs.Further.{some_longer}
use Rattle.syntax.proofs.ExpressionReadings.{nothing_follows, none_longer}
use Rattle.syntax.proofs.laws.what_ends_goes_no_further.Goals as goal

pub returns-clause-ends : goal.returns-clause-ends
returns-clause-ends c = ends_expression

pub returns-clause-last : goal.returns-clause-last
returns-clause-last c = nothing_follows

pub returns-clause-longest : goal.returns-clause-longest
returns-clause-longest c = none_longer

pub returns-clause-goes_on : goal.returns-clause-goes_on
returns-clause-goes_on c = some_longer
