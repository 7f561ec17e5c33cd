-- Proofs of `send_member`, src/outcome_text.rt.
use Rattle.std.proofs.Common.{[], ap, ◌∷◌, decimal}
use Rattle.replies.proofs.SendingLaws.{lacks_memory, fails_more, emits_failed}
use Rattle.replies.proofs.reply_writer.ReplyWriter.send_member.Goals as goal

pub returns-in_err-make_room : goal.returns-in_err-make_room
returns-in_err-make_room g c =
    emits_failed _ _ _ _ _ c.from_residual.ensures.1 (fails_more _ _ [] (32 ∷ decimal c.args.member) _ c.in_err-make_room.ensures)

pub returns-in_err-push_spaced_number : goal.returns-in_err-push_spaced_number
returns-in_err-push_spaced_number g c =
    let part = lacks_memory _ c.make_room.new.self _ [] (32 ∷ decimal c.args.member) c.in_ok-make_room.ensures (ap (λ o. o.writer) c.self.view_is) (ap (λ o. o.bytes_written) c.self.view_is)
    (ap (λ o. o.failures) c.self.view_is) in
    emits_failed _ _ _ _ _ c.from_residual-in_err-push_spaced_number.ensures.1 part
