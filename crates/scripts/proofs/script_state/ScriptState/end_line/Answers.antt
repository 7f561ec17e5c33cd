-- Proofs of `end_line`, src/script_state.rt.
use Rattle.std.proofs.Common.{◌∙◌, sym}
use Rattle.std.proofs.lemmas.Bool.{eqb-true}
use Rattle.scripts.proofs.ReadingLaws.{empty_when_none}
use Rattle.replies.proofs.SendingLaws.{emits_none, emits_failed}
use Rattle.scripts.proofs.script_state.ScriptState.end_line.Goals as goal

pub returns-then-is_empty-clause-emits : goal.returns-then-is_empty-clause-emits
returns-then-is_empty-clause-emits g c =
    let nothing = empty_when_none c.self.inside.partial.items (sym c.self.inside.partial.ok.0 ∙ eqb-true _ _ (sym c.if-is_empty.ensures)) in
    rw (← c.self.view_is, nothing) c.answer_line.ensures.emits

pub returns-in_err-extend_from_slice-clause-emits : goal.returns-in_err-extend_from_slice-clause-emits
returns-in_err-extend_from_slice-clause-emits g c = emits_none _ _ _ c.from_residual.ensures.1

pub returns-in_err-answer_line-clause-emits : goal.returns-in_err-answer_line-clause-emits
returns-in_err-answer_line-clause-emits g c =
    emits_failed _ _ _ _ _ c.from_residual-in_err-answer_line.ensures.1
    (rw (← c.self.view_is, ← c.in_ok-extend_from_slice.ensures.items, ← c.deref.ensures.value) c.in_err-answer_line.ensures.emits)
