use Rattle.std.proofs.Common.{◌≡◌, drop}
use Rattle.kernels.specs.Local.{is_local_code}
use Rattle.kernels.proofs.local.is_local.Given as goal

abbrev pub invariant-instructions : goal.invariant-instructions
invariant-instructions l = is_local_code (drop l.instruction-index l.code) ≡ is_local_code l.code
