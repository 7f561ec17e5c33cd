-- Proofs of `arithmetic_of`, src/arithmetic.rt.
use Rattle.std.proofs.Common.{rules}
use Rattle.std.proofs.lemmas.Int.{wraps}
use Rattle.algorithm_meaning.proofs.arithmetic.arithmetic_of.Goals as goal

pub returns-in-Add : goal.returns-in-Add
returns-in-Add c = search (rules, wraps)

pub returns-in-Subtract : goal.returns-in-Subtract
returns-in-Subtract c = search (rules, wraps)
