-- Proofs of `beginnings_are_one`, src/laws.rt.
use Rattle.syntax.proofs.ExpressionReadings.{one_reading}
use Rattle.syntax.proofs.laws.beginnings_are_one.Goals as goal

pub returns : goal.returns
returns c = one_reading
