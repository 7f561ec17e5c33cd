-- Proofs of `open`, src/script_state.rt.
use Rattle.std.proofs.Common.{◌≡◌, ◌∙◌, Option, ap, sym, arith}
use Rattle.std.proofs.lemmas.Grind.{common_steps}
use Rattle.replies.specs.declared.line_reply.LineReply.TheVariants as line_reply
use Rattle.replies.specs.ReplyText.{line_text}
use Rattle.scripts.specs.Replies.{Answer, OpenState, unopened}
use Rattle.scripts.proofs.ReadingLaws.{nothing_opened}
use Rattle.scripts.proofs.RunReplies.{on_ok_where}
use Rattle.replies.proofs.SendingLaws.{emits_none, emits_as}
use Rattle.scripts.proofs.script_state.open.Goals as goal

pub returns-in_err-reply-in-Err-clause-emits : goal.returns-in_err-reply-in-Err-clause-emits
returns-in_err-reply-in-Err-clause-emits g c = emits_none _ _ _ c.from_residual.ensures.1

pub returns-in-Ok-clause-emits : goal.returns-in-Ok-clause-emits
returns-in-Ok-clause-emits g c =
    let text : (unopened c.args.command).text ≡ line_text (line_reply.Open c.in-Vertices.vertices) = grind (arith, common_steps) in
    emits_as _ _ _ _ _ c.send.ensures text

pub returns-in_ok-reply-in-Err-clause-emits : goal.returns-in_ok-reply-in-Err-clause-emits
returns-in_ok-reply-in-Err-clause-emits g c =
    let text : (unopened c.args.command).text ≡ line_text c.in_ok-reply-in-Err.reply = grind (arith, common_steps) in
    emits_as _ _ _ _ _ c.send-in-Err.ensures text

pub returns-in_default : goal.returns-in_default
returns-in_default g c =
    let none = nothing_opened c.args.command c.in_default.not-Vertices in
    record {
      emits = emits_as _ _ _ _ _ c.refuse.ensures (ap (λ (a : Answer (Option OpenState)). a.text) none);
      state = on_ok_where c.refuse.result (c.requires ∙ sym (ap (λ (a : Answer (Option OpenState)). a.state) none));
    }
