-- Beside `Racing`: definitions that no public contract cites.
use Rattle.std.specs.Prelude.{ℕ, List, ◌⊎◌, Result, Ok, Err}
use Rattle.std.specs.declared.io.Error.{Error}
use Rattle.races.specs.RaceScript.{order_by}
use Rattle.races.specs.declared.reading.RaceScript.{RaceScript}
use Rattle.driver.specs.declared.error.ServeError.{ServeError}
use Rattle.driver.specs.Reading.{FailsRead}
use Rattle.driver.specs.Racing.{HoldsScript, RefusesScript}

-- what is made of the file with the script
abbrev pub ReadsFile : (List ℕ → Type 0) → (Error → Type 0) → List ℕ → Result RaceScript ServeError → Type 0
ReadsFile holds fails file (Ok script) = HoldsScript holds (order_by script)
ReadsFile holds fails file (Err e) = FailsRead fails file e ⊎ RefusesScript holds file e
