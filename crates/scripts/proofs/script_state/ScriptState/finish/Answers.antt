-- Proofs of `finish`, src/script_state.rt.
use Rattle.scripts.proofs.script_state.ScriptState.finish.Goals as goal

pub returns-clause-emits : goal.returns-clause-emits
returns-clause-emits g c = rw (← c.self.view_is, ← c.deref.ensures.value) c.answer_line.ensures.emits
