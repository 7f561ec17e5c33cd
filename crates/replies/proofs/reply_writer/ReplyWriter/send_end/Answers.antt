-- Proofs of `send_end`, src/outcome_text.rt.
use Rattle.std.proofs.Common.{[], ap}
use Rattle.replies.specs.ReplyText.{end_line}
use Rattle.replies.proofs.SendingLaws.{lacks_memory, fails_more, emits_failed}
use Rattle.replies.proofs.reply_writer.ReplyWriter.send_end.Goals as goal

pub returns-in_err-make_room : goal.returns-in_err-make_room
returns-in_err-make_room g c =
    emits_failed _ _ _ _ _ c.from_residual.ensures.1 (fails_more _ _ [] (end_line c.args.end c.args.turns) _ c.in_err-make_room.ensures)

pub returns-in_err-push_end_line : goal.returns-in_err-push_end_line
returns-in_err-push_end_line g c =
    let part = lacks_memory _ c.make_room.new.self _ [] (end_line c.args.end c.args.turns) c.in_ok-make_room.ensures (ap (λ o. o.writer) c.self.view_is) (ap (λ o. o.bytes_written) c.self.view_is)
    (ap (λ o. o.failures) c.self.view_is) in
    emits_failed _ _ _ _ _ c.from_residual-in_err-push_end_line.ensures.1 part
