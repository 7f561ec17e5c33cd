-- Proofs of `send_race`, src/race_text.rt.
use Rattle.std.proofs.Common.{◌++◌, refl, sym, ap, codes}
use Rattle.replies.specs.ReplyText.{word_line}
use Rattle.replies.proofs.SendingLaws.{emits_as, emits_next, emits_stopped}
use Rattle.races.specs.RaceText.{early_text, late_text, replies_text}
use Rattle.races.proofs.race_text.send_race.Goals as goal

pub returns-in_err-send_line : goal.returns-in_err-send_line
returns-in_err-send_line g c =
    emits_stopped _ _ (word_line (codes "open") c.args.race.now.vertices) (replies_text c.args.race.now.replies.items
    ++ (early_text c.args.race.now.runs.items ++ late_text c.args.race.now.runs.items))
    _ _ _ c.from_residual.ensures.1 refl c.in_err-send_line.ensures

pub returns-in_err-send_replies : goal.returns-in_err-send_replies
returns-in_err-send_replies g c =
    emits_next _ _ _ (word_line (codes "open") c.args.race.now.vertices) (replies_text c.args.race.now.replies.items ++ (early_text c.args.race.now.runs.items ++ late_text c.args.race.now.runs.items))
    _ _ c.in_ok-send_line.ensures refl
    (emits_stopped _ _ (replies_text c.args.race.now.replies.items) (early_text c.args.race.now.runs.items ++ late_text c.args.race.now.runs.items) _ _ _
    c.from_residual-in_err-send_replies.ensures.1 (ap replies_text c.deref.ensures.value) c.in_err-send_replies.ensures)

pub returns-in_err-send_early : goal.returns-in_err-send_early
returns-in_err-send_early g c =
    emits_next _ _ _ (word_line (codes "open") c.args.race.now.vertices) (replies_text c.args.race.now.replies.items ++ (early_text c.args.race.now.runs.items ++ late_text c.args.race.now.runs.items))
    _ _ c.in_ok-send_line.ensures refl
    (emits_next _ _ _ (replies_text c.args.race.now.replies.items) (early_text c.args.race.now.runs.items ++ late_text c.args.race.now.runs.items) _ _ c.in_ok-send_replies.ensures
    (ap replies_text c.deref.ensures.value)
    (emits_stopped _ _ (early_text c.args.race.now.runs.items) (late_text c.args.race.now.runs.items) _ _ _ c.from_residual-in_err-send_early.ensures.1
    (ap early_text c.deref-2.ensures.value) c.in_err-send_early.ensures))

pub returns : goal.returns
returns g c =
    emits_next _ _ _ (word_line (codes "open") c.args.race.now.vertices) (replies_text c.args.race.now.replies.items ++ (early_text c.args.race.now.runs.items ++ late_text c.args.race.now.runs.items))
    _ _ c.in_ok-send_line.ensures refl
    (emits_next _ _ _ (replies_text c.args.race.now.replies.items) (early_text c.args.race.now.runs.items ++ late_text c.args.race.now.runs.items) _ _ c.in_ok-send_replies.ensures
    (ap replies_text c.deref.ensures.value)
    (emits_next _ _ _ (early_text c.args.race.now.runs.items) (late_text c.args.race.now.runs.items) _ _ c.in_ok-send_early.ensures (ap early_text c.deref-2.ensures.value)
    (emits_as _ _ _ _ _ c.send_late.ensures (ap late_text (sym c.deref-3.ensures.value)))))
