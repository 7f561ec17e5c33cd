-- Proofs of `send_run`, src/race_text.rt.
use Rattle.std.proofs.Common.{◌∙◌}
use Rattle.replies.specs.ReplyText.{outcome_text}
use Rattle.replies.proofs.SendingLaws.{emits_next, emits_none, emits_stopped}
use Rattle.races.specs.RaceText.{run_line}
use Rattle.races.proofs.race_text.send_run.Goals as goal

pub returns-in_err-line : goal.returns-in_err-line
returns-in_err-line g c = emits_none c.args.replies.now _ _ c.from_residual.ensures.1

pub returns-in_err-send_bytes : goal.returns-in_err-send_bytes
returns-in_err-send_bytes g c =
    emits_stopped _ _ (run_line c.args.when.now c.args.program c.args.run.now.version) (outcome_text c.args.run.now.outcome) _ _ _ c.from_residual-in_err-send_bytes.ensures.1
    (c.deref.ensures.value ∙ c.in_ok-line.ensures) c.in_err-send_bytes.ensures

pub returns : goal.returns
returns g c =
    emits_next _ _ _ (run_line c.args.when.now c.args.program c.args.run.now.version) (outcome_text c.args.run.now.outcome) _ _ c.in_ok-send_bytes.ensures
    (c.deref.ensures.value ∙ c.in_ok-line.ensures) c.send_outcome.ensures
