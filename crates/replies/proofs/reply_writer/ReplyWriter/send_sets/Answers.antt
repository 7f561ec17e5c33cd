-- Proofs of `send_sets`, src/outcome_text.rt.
use Rattle.std.proofs.Common.{◌≤◌, ◌<◌, length, subst, arith}
use Rattle.std.proofs.lemmas.List.{take_all}
use Rattle.std.specs.List.{flat_map}
use Rattle.replies.specs.ReplyText.{set_line}
use Rattle.replies.specs.Sending.{Sends}
use Rattle.replies.proofs.SendingLaws.{sends_none, sends_at, fails_at, emits_failed}
use Rattle.replies.proofs.reply_writer.ReplyWriter.send_sets.Goals as goal

pub sets-init : goal.sets-init
sets-init g c = sends_none c.args.self.now

pub returns-in_err-send_set : goal.returns-in_err-send_set
returns-in_err-send_set g c =
    let within : c.sets.set-index < length c.args.sets.now = omega (arith, c.sets-test.true, c.sets.auto.set-index-end) in
    emits_failed _ _ _ _ _ c.from_residual.ensures.1
    (fails_at set_line _ _ _ c.args.sets.now c.sets.set-index c.set-item.result c.set-item.result within c.set-item.is _ c.sets.invariant c.in_err-send_set.ensures)

pub sets-preserved : goal.sets-preserved
sets-preserved g c =
    let within : c.sets.set-index < length c.args.sets.now = omega (arith, c.sets-test.true, c.sets.auto.set-index-end) in
    sends_at set_line _ _ _ c.args.sets.now c.sets.set-index c.set-item.result c.set-item.result within c.set-item.is c.sets.invariant c.in_ok-send_set.ensures

pub returns : goal.returns
returns g c =
    let past : length c.args.sets.now ≤ c.sets.set-index = omega (arith, c.sets-test.false, c.sets.auto.set-index-end) in
    subst (λ xs. Sends c.args.self.now c.sets.self (flat_map set_line xs)) (take_all c.sets.set-index c.args.sets.now past) c.sets.invariant
