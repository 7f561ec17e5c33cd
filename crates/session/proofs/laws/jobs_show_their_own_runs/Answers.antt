-- Proofs of `jobs_show_their_own_runs`, src/laws.rt.
use Rattle.session.proofs.OwnRuns.{shows_its_own_run}
use Rattle.session.proofs.laws.jobs_show_their_own_runs.Goals as goal

pub returns : goal.returns
returns c = shows_its_own_run
