-- Beside `Refusal`: definitions that no public contract cites.
use Rattle.shared_graph.specs.declared.error.LatestError.{LatestError}
use Rattle.shared_graph.specs.declared.error.LatestError.TheVariants as latest
use Rattle.snapshot_runs.specs.declared.error.LatestRunError.{LatestRunError}
use Rattle.snapshot_runs.specs.declared.error.LatestRunError.TheVariants.{Closed, NoMemory}

-- a refusal of the newest version, as one of a run on it
abbrev pub of_latest : LatestError → LatestRunError
of_latest latest.Closed = Closed
of_latest latest.NoMemory = NoMemory
