-- Proofs of `steps_of_jobs_change_places`, src/laws.rt.
use Rattle.session.proofs.Indices.{job_steps_change_places, steps_of_two_jobs}
use Rattle.session.proofs.laws.steps_of_jobs_change_places.Goals as goal

pub returns-clause-any_step : goal.returns-clause-any_step
returns-clause-any_step c = job_steps_change_places

pub returns-clause-two_jobs : goal.returns-clause-two_jobs
returns-clause-two_jobs c = steps_of_two_jobs
