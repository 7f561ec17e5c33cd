-- Proofs of `send_replies`, src/race_text.rt.
use Rattle.std.proofs.Common.{◌≡◌, ℕ, List, ◌≤◌, ◌<◌, length, refl, subst, arith}
use Rattle.std.proofs.lemmas.List.{take_all}
use Rattle.std.specs.List.{flat_map}
use Rattle.races.specs.declared.outcomes.CommitReply.TheVariants.{Version}
use Rattle.races.specs.RaceText.{reply_line}
use Rattle.replies.specs.declared.send_error.SendError.{SendError}
use Rattle.replies.specs.Sending.{Fails, Output, Sends}
use Rattle.replies.proofs.SendingLaws.{sends_none, sends_at, fails_at, emits_failed}
use Rattle.races.proofs.race_text.send_replies.Goals as goal

-- what was sent or was to be sent, by another name of the text
sends_as : (a b : Output) (t u : List ℕ) → t ≡ u → Sends a b t → Sends a b u
sends_as a b t u is sent = subst (λ (text : List ℕ). Sends a b text) is sent

fails_as : (a b : Output) (t u : List ℕ) (e : SendError) → t ≡ u → Fails a b t e → Fails a b u e
fails_as a b t u e is failed = subst (λ (text : List ℕ). Fails a b text e) is failed

pub commits-init : goal.commits-init
commits-init g c = sends_none c.args.replies.now

pub returns-in_err-send_line : goal.returns-in_err-send_line
returns-in_err-send_line g c =
    let within : c.commits.commit-index < length c.args.commits.now = omega (arith, c.commits-test.true, c.commits.auto.commit-index-end) in
    emits_failed _ _ _ _ _ c.from_residual.ensures.1
    (fails_at reply_line _ _ _ c.args.commits.now c.commits.commit-index _ (Version 0) within refl _ c.commits.invariant
    (fails_as _ _ _ _ _ c.line_of.ensures c.in_err-send_line.ensures))

pub commits-preserved : goal.commits-preserved
commits-preserved g c =
    let within : c.commits.commit-index < length c.args.commits.now = omega (arith, c.commits-test.true, c.commits.auto.commit-index-end) in
    sends_at reply_line _ _ _ c.args.commits.now c.commits.commit-index _ (Version 0) within refl c.commits.invariant
    (sends_as _ _ _ _ c.line_of.ensures c.in_ok-send_line.ensures)

pub returns : goal.returns
returns g c =
    let past : length c.args.commits.now ≤ c.commits.commit-index = omega (arith, c.commits-test.false, c.commits.auto.commit-index-end) in
    subst (λ xs. Sends c.args.replies.now c.commits.replies (flat_map reply_line xs)) (take_all c.commits.commit-index c.args.commits.now past) c.commits.invariant
