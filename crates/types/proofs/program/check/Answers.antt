-- Proofs of `check`, src/program.rt.
use Rattle.std.proofs.Common.{ap, ◌∙◌}
use Rattle.expression_types.proofs.Least.{none_told}
use Rattle.types.proofs.program.check.Goals as goal

pub returns-in-Some : goal.returns-in-Some
returns-in-Some c = ap (λ p. p.1) c.in_ok-program.ensures ∙ c.in-Some.is

pub returns-in-None : goal.returns-in-None
returns-in-None c = (none_told _ (ap (λ p. p.1) c.in_ok-program.ensures ∙ c.in-None.is), ap (λ p. p.0) c.in_ok-program.ensures)
