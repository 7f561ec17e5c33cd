-- Proofs of `send_edge`, src/reply_writer.rt.
use Rattle.std.proofs.Common.{[], ap}
use Rattle.replies.specs.ReplyText.{edge_line}
use Rattle.replies.proofs.SendingLaws.{lacks_memory, fails_more, emits_failed}
use Rattle.replies.proofs.reply_writer.ReplyWriter.send_edge.Goals as goal

pub returns-in_err-make_room : goal.returns-in_err-make_room
returns-in_err-make_room g c =
    emits_failed _ _ _ _ _ c.from_residual.ensures.1 (fails_more _ _ [] (edge_line c.args.edge) _ c.in_err-make_room.ensures)

pub returns-in_err-push_edge_line : goal.returns-in_err-push_edge_line
returns-in_err-push_edge_line g c =
    let part = lacks_memory _ c.make_room.new.self _ [] (edge_line c.args.edge) c.in_ok-make_room.ensures (ap (λ o. o.writer) c.self.view_is) (ap (λ o. o.bytes_written) c.self.view_is)
    (ap (λ o. o.failures) c.self.view_is) in
    emits_failed _ _ _ _ _ c.from_residual-in_err-push_edge_line.ensures.1 part
