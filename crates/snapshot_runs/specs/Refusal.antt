-- The numbers by which refusals of runs on the newest version are known.
use Rattle.std.specs.Prelude.{ℕ}
use Rattle.snapshot_runs.specs.declared.error.LatestRunError.{LatestRunError}
use Rattle.snapshot_runs.specs.declared.error.LatestRunError.TheVariants.{BadWorkers, Closed, NoMemory}

-- the number of a refusal
abbrev pub number_of : LatestRunError → ℕ
number_of BadWorkers = 411
number_of Closed = 125
number_of NoMemory = 900
