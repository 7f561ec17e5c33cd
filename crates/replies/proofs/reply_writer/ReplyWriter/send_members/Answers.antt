-- Proofs of `send_members`, src/outcome_text.rt.
use Rattle.std.proofs.Common.{◌≤◌, ◌<◌, length, refl, subst, arith, ◌∷◌, decimal}
use Rattle.std.proofs.lemmas.List.{take_all}
use Rattle.std.specs.List.{flat_map}
use Rattle.replies.specs.Sending.{Sends}
use Rattle.replies.proofs.SendingLaws.{sends_none, sends_at, fails_at, emits_failed}
use Rattle.replies.proofs.reply_writer.ReplyWriter.send_members.Goals as goal

pub members-init : goal.members-init
members-init g c = sends_none c.args.self.now

pub returns-in_err-send_member : goal.returns-in_err-send_member
returns-in_err-send_member g c =
    let within : c.members.member-index < length c.args.members.now = omega (arith, c.members-test.true, c.members.auto.member-index-end) in
    emits_failed _ _ _ _ _ c.from_residual.ensures.1
    (fails_at (λ n. 32 ∷ decimal n) _ _ _ c.args.members.now c.members.member-index _ 0 within refl _ c.members.invariant c.in_err-send_member.ensures)

pub members-preserved : goal.members-preserved
members-preserved g c =
    let within : c.members.member-index < length c.args.members.now = omega (arith, c.members-test.true, c.members.auto.member-index-end) in
    sends_at (λ n. 32 ∷ decimal n) _ _ _ c.args.members.now c.members.member-index _ 0 within refl c.members.invariant c.in_ok-send_member.ensures

pub returns : goal.returns
returns g c =
    let past : length c.args.members.now ≤ c.members.member-index = omega (arith, c.members-test.false, c.members.auto.member-index-end) in
    subst (λ xs. Sends c.args.self.now c.members.self (flat_map (λ n. 32 ∷ decimal n) xs)) (take_all c.members.member-index c.args.members.now past) c.members.invariant
