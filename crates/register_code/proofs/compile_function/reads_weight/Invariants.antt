use Rattle.std.proofs.Common.{◌≡◌, drop}
use Rattle.register_code.specs.Meaning.{reads_weight}
use Rattle.register_code.proofs.compile_function.reads_weight.Given as goal

abbrev pub invariant-instructions : goal.invariant-instructions
invariant-instructions l = reads_weight (drop l.instruction-index l.code) ≡ reads_weight l.code
