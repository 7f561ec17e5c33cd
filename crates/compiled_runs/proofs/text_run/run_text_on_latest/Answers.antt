-- Proofs of `run_text_on_latest`, src/text_run.rt.
use Rattle.compiled_runs.proofs.text_run.run_text_on_latest.Goals as goal

-- a run is refused after the text was compiled
pub returns-in_err-run_latest-clause-planned : goal.returns-in_err-run_latest-clause-planned
returns-in_err-run_latest-clause-planned g c = λ reason is. record { plan = c.in_ok-plan.plan; of = c.in_ok-plan.ensures }
