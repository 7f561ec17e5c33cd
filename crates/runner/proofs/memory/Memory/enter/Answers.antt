-- Proofs of `enter`, src/control.rt.
use Rattle.std.proofs.Common.{arith}
use Rattle.std.proofs.lemmas.Grind.{common_steps}
use Rattle.runner.proofs.memory.Memory.enter.Goals as goal

pub returns-in_ok-declare_int-in-Some-clause-done : goal.returns-in_ok-declare_int-in-Some-clause-done
returns-in_ok-declare_int-in-Some-clause-done c p g t name on has = grind (arith, common_steps)
