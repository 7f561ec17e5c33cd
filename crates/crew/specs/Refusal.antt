-- The numbers by which refusals are known.
use Rattle.std.specs.Prelude.{ℕ}
use Rattle.crew.specs.declared.error.CrewError.{CrewError}
use Rattle.crew.specs.declared.error.CrewError.TheVariants.{BadWorkers, NoMemory}

-- the number of a refusal
abbrev pub number_of : CrewError → ℕ
number_of BadWorkers = 411
number_of NoMemory = 900
