-- Proofs of `turns_run_out_when_all_are_used`, src/loops.rt.
use Rattle.meaning_laws.proofs.Unrolling.{turns_used}
use Rattle.meaning_laws.proofs.loops.turns_run_out_when_all_are_used.Goals as goal

pub returns : goal.returns
returns c = turns_used
