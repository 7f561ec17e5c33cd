-- Proofs of `jobs_go_by_their_own_steps`, src/laws.rt.
use Rattle.session.proofs.Alone.{jobs_go_alone}
use Rattle.session.proofs.OwnRuns.{jobs_run_alone}
use Rattle.session.proofs.laws.jobs_go_by_their_own_steps.Goals as goal

pub returns-clause-world : goal.returns-clause-world
returns-clause-world c = jobs_go_alone

pub returns-clause-session : goal.returns-clause-session
returns-clause-session c = jobs_run_alone
