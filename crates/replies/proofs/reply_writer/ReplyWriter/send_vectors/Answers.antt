-- Proofs of `send_vectors`, src/outcome_text.rt.
use Rattle.std.proofs.Common.{◌≤◌, ◌<◌, length, subst, arith}
use Rattle.std.proofs.lemmas.List.{take_all}
use Rattle.std.specs.List.{flat_map}
use Rattle.replies.specs.ReplyText.{vector_line}
use Rattle.replies.specs.Sending.{Sends}
use Rattle.replies.proofs.SendingLaws.{sends_none, sends_at, fails_at, emits_failed}
use Rattle.replies.proofs.reply_writer.ReplyWriter.send_vectors.Goals as goal

pub vectors-init : goal.vectors-init
vectors-init g c = sends_none c.args.self.now

pub returns-in_err-send_vector : goal.returns-in_err-send_vector
returns-in_err-send_vector g c =
    let within : c.vectors.vector-index < length c.args.vectors.now = omega (arith, c.vectors-test.true, c.vectors.auto.vector-index-end) in
    emits_failed _ _ _ _ _ c.from_residual.ensures.1
    (fails_at vector_line _ _ _ c.args.vectors.now c.vectors.vector-index c.vector-item.result c.vector-item.result within c.vector-item.is _ c.vectors.invariant c.in_err-send_vector.ensures)

pub vectors-preserved : goal.vectors-preserved
vectors-preserved g c =
    let within : c.vectors.vector-index < length c.args.vectors.now = omega (arith, c.vectors-test.true, c.vectors.auto.vector-index-end) in
    sends_at vector_line _ _ _ c.args.vectors.now c.vectors.vector-index c.vector-item.result c.vector-item.result within c.vector-item.is c.vectors.invariant c.in_ok-send_vector.ensures

pub returns : goal.returns
returns g c =
    let past : length c.args.vectors.now ≤ c.vectors.vector-index = omega (arith, c.vectors-test.false, c.vectors.auto.vector-index-end) in
    subst (λ xs. Sends c.args.self.now c.vectors.self (flat_map vector_line xs)) (take_all c.vectors.vector-index c.args.vectors.now past) c.vectors.invariant
