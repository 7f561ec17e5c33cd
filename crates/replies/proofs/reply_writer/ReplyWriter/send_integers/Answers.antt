-- Proofs of `send_integers`, src/outcome_text.rt.
use Rattle.std.proofs.Common.{rules, ◌≡◌, get_or, to_z, of_z, w64, ◌≤◌, ◌<◌, length, subst, arith, pos, ◌∷◌}
use Rattle.std.proofs.lemmas.List.{take_all}
use Rattle.std.specs.List.{flat_map}
use Rattle.std.specs.Fmt.{signed_decimal}
use Rattle.replies.specs.Sending.{Sends}
use Rattle.replies.proofs.SendingLaws.{sends_none, sends_at, fails_at, emits_failed}
use Rattle.replies.proofs.reply_writer.ReplyWriter.send_integers.Goals as goal

pub integers-init : goal.integers-init
integers-init g c = sends_none c.args.self.now

pub returns-in_err-send_integer : goal.returns-in_err-send_integer
returns-in_err-send_integer g c =
    let within : c.integers.integer-index < length c.args.integers.now = omega (arith, c.integers-test.true, c.integers.auto.integer-index-end) in
    let is : to_z w64 (of_z w64 (get_or c.args.integers.now c.integers.integer-index (pos 0))) ≡ get_or c.args.integers.now c.integers.integer-index (pos 0) = search rules in
    emits_failed _ _ _ _ _ c.from_residual.ensures.1
    (fails_at (λ n. 32 ∷ signed_decimal n) _ _ _ c.args.integers.now c.integers.integer-index _ (pos 0) within is _ c.integers.invariant c.in_err-send_integer.ensures)

pub integers-preserved : goal.integers-preserved
integers-preserved g c =
    let within : c.integers.integer-index < length c.args.integers.now = omega (arith, c.integers-test.true, c.integers.auto.integer-index-end) in
    let is : to_z w64 (of_z w64 (get_or c.args.integers.now c.integers.integer-index (pos 0))) ≡ get_or c.args.integers.now c.integers.integer-index (pos 0) = search rules in
    sends_at (λ n. 32 ∷ signed_decimal n) _ _ _ c.args.integers.now c.integers.integer-index _ (pos 0) within is c.integers.invariant c.in_ok-send_integer.ensures

pub returns : goal.returns
returns g c =
    let past : length c.args.integers.now ≤ c.integers.integer-index = omega (arith, c.integers-test.false, c.integers.auto.integer-index-end) in
    subst (λ xs. Sends c.args.self.now c.integers.self (flat_map (λ n. 32 ∷ signed_decimal n) xs)) (take_all c.integers.integer-index c.args.integers.now past) c.integers.invariant
