-- Proofs of `negate`, src/arithmetic.rt.
use Rattle.std.proofs.Common.{rules}
use Rattle.std.proofs.lemmas.Int.{wraps}
use Rattle.algorithm_meaning.proofs.arithmetic.negate.Goals as goal

pub returns : goal.returns
returns c = search (rules, wraps)
