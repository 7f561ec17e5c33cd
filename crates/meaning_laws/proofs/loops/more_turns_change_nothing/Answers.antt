-- Proofs of `more_turns_change_nothing`, src/loops.rt.
use Rattle.meaning_laws.proofs.Turns.{more_turns}
use Rattle.meaning_laws.proofs.loops.more_turns_change_nothing.Goals as goal

pub returns : goal.returns
returns c = more_turns
