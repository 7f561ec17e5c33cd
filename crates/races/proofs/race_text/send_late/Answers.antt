-- Proofs of `send_late`, src/race_text.rt.
use Rattle.std.proofs.Common.{◌≤◌, ◌<◌, length, get_or, refl, subst, arith}
use Rattle.std.proofs.lemmas.List.{take_all}
use Rattle.replies.specs.Sending.{Sends}
use Rattle.replies.proofs.SendingLaws.{sends_none, emits_failed}
use Rattle.races.specs.RaceText.{numbered, late_run}
use Rattle.races.proofs.Numbering.{fails_numbered, sends_numbered}
use Rattle.races.proofs.race_text.send_late.Goals as goal

pub runs-init : goal.runs-init
runs-init g c = sends_none c.args.replies.now

pub returns-in_err-send_run : goal.returns-in_err-send_run
returns-in_err-send_run g c =
    let within : c.runs.index < length c.args.all.now = omega (arith, c.runs-test.true, c.runs.auto.index-end) in
    emits_failed _ _ _ _ _ c.from_residual.ensures.1
    (fails_numbered late_run _ _ _ c.args.all.now c.runs.index
    (get_or c.args.all.now c.runs.index c.index-all-index.result) c.index-all-index.result within refl _ c.runs.invariant c.in_err-send_run.ensures)

pub runs-preserved : goal.runs-preserved
runs-preserved g c =
    let within : c.runs.index < length c.args.all.now = omega (arith, c.runs-test.true, c.runs.auto.index-end) in
    sends_numbered late_run _ _ _ c.args.all.now c.runs.index
    (get_or c.args.all.now c.runs.index c.index-all-index.result) c.index-all-index.result within refl c.runs.invariant c.in_ok-send_run.ensures

pub returns : goal.returns
returns g c =
    let past : length c.args.all.now ≤ c.runs.index = omega (arith, c.runs-test.false, c.runs.auto.index-end) in
    subst (λ xs. Sends c.args.replies.now c.runs.replies (numbered late_run 1 xs)) (take_all c.runs.index c.args.all.now past) c.runs.invariant
