-- The numbers by which refusals are known.
use Rattle.std.specs.Prelude.{ℕ}
use Rattle.shared_graph.specs.Outcome.{number_of as shared_number_of}
use Rattle.snapshot_runs.specs.Refusal.{number_of as run_number_of}
use Rattle.races.specs.declared.error.RaceError.{RaceError}
use Rattle.races.specs.declared.error.RaceError.TheVariants.{NotOpened, NotRun}
use Rattle.races.specs.declared.error.RaceScriptError.{RaceScriptError}
use Rattle.races.specs.declared.error.RaceScriptError.TheVariants as script

-- the number of a refusal of a script
abbrev pub script_number_of : RaceScriptError → ℕ
script_number_of script.NoRace = 801
script_number_of script.NoMemory = 900

-- the number of a refusal of a race
abbrev pub number_of : RaceError → ℕ
number_of (NotOpened error) = shared_number_of error
number_of (NotRun error) = run_number_of error
