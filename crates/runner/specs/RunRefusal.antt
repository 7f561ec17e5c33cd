-- The numbers by which refusals of runs are known.
use Rattle.std.specs.Prelude.{ℕ}
use Rattle.runner.specs.declared.run_error.RunError.{RunError}
use Rattle.runner.specs.declared.run_error.RunError.TheVariants.{BadWorkers, NoMemory}

-- the number of a refusal
abbrev pub number_of : RunError → ℕ
number_of BadWorkers = 411
number_of NoMemory = 900
