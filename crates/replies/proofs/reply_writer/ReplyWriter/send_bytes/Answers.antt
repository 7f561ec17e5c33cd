-- Proofs of `send_bytes`, src/reply_writer.rt.
use Rattle.std.proofs.Common.{[], ap}
use Rattle.replies.proofs.SendingLaws.{sends_none, lacks_memory, emits_failed}
use Rattle.replies.proofs.reply_writer.ReplyWriter.send_bytes.Goals as goal

pub returns-in_err-extend_from_slice : goal.returns-in_err-extend_from_slice
returns-in_err-extend_from_slice g c =
    emits_failed _ _ _ _ _ c.from_residual.ensures.1
    (lacks_memory _ c.args.self.now _ [] c.args.bytes.now (sends_none c.args.self.now) (ap (λ o. o.writer) c.self.view_is) (ap (λ o. o.bytes_written) c.self.view_is)
    (ap (λ o. o.failures) c.self.view_is))
