-- Proofs of `brackets_are_read_by_hand`, src/brackets.rt.
use Rattle.plan_laws.proofs.CutWords.{integer_in_brackets, condition_in_brackets}
use Rattle.plan_laws.proofs.brackets.brackets_are_read_by_hand.Goals as goal

pub returns-clause-integers : goal.returns-clause-integers
returns-clause-integers c = integer_in_brackets

pub returns-clause-conditions : goal.returns-clause-conditions
returns-clause-conditions c = condition_in_brackets
