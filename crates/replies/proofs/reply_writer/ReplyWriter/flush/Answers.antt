-- Proofs of `flush`, src/reply_writer.rt.
use Rattle.std.proofs.Common.{refl, subst}
use Rattle.devices.specs.Devices.{TakesPart}
use Rattle.replies.proofs.SendingLaws.{part_of_write}
use Rattle.replies.proofs.reply_writer.ReplyWriter.flush.Goals as goal

pub returns-in-Err-clause-emits : goal.returns-in-Err-clause-emits
returns-in-Err-clause-emits g c =
    let bytes_written = g.W.Drain.bytes_written in
    let part = subst (λ bytes. TakesPart (bytes_written c.self.inside.writer.now) (bytes_written c.write_all.new.writer) bytes) c.deref.ensures.value c.in-Err.ensures.err.0 in
    rw (← c.self.view_is) (part_of_write _ _ refl part, c.in-Err.ensures.err.1)
