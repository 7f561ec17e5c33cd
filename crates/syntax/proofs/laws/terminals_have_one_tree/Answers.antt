-- Proofs of `terminals_have_one_tree`, src/laws.rt.
use Rattle.syntax.proofs.ExpressionReadings.{one_tree}
use Rattle.syntax.proofs.laws.terminals_have_one_tree.Goals as goal

pub returns : goal.returns
returns c = one_tree
