-- Proofs of `write_after`, src/reply_writer.rt.
use Rattle.std.proofs.Common.{[], ◌∙◌, refl, sym, ap, subst}
use Rattle.replies.specs.Sending.{Sends}
use Rattle.replies.proofs.SendingLaws.{fails_more, sends_written, fails_written, emits_failed}
use Rattle.replies.proofs.reply_writer.ReplyWriter.write_after.Goals as goal
use Rattle.replies.proofs.reply_writer.ReplyWriter.write_after.Goals.{in-Ok, in-Err}

pub returns-in_err-flush : goal.returns-in_err-flush
returns-in_err-flush g c = emits_failed _ _ _ _ _ c.from_residual.ensures.1 (fails_more _ _ [] c.args.bytes.now _ c.in_err-flush.ensures.emits)

pub returns : goal.returns
returns g c =
    let one = subst (λ o. Sends c.args.self.now o []) (sym c.self.view_is) c.in_ok-flush.ensures.emits in
    let none = ap (λ o. o.kept) c.self.view_is ∙ c.in_ok-flush.ensures.empty in
    elim c.match-write_all.branch [
      | in-Ok w ↦ rw (w.result-is) (sends_written _ _ _ c.args.bytes.now one none refl refl w.in-Ok.ensures.ok w.in-Ok.ensures.no_failure)
      | in-Err w ↦ rw (w.result-is) (fails_written _ _ _ c.args.bytes.now one none refl w.in-Err.ensures.err.0 w.in-Err.ensures.err.1)
    ]
