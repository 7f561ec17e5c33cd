-- Proofs of `loops_are_unrolled`, src/loops.rt.
use Rattle.meaning_laws.proofs.Unrolling.{while_again, for_again}
use Rattle.meaning_laws.proofs.loops.loops_are_unrolled.Goals as goal

pub returns-clause-while_loops : goal.returns-clause-while_loops
returns-clause-while_loops c = while_again

pub returns-clause-for_loops : goal.returns-clause-for_loops
returns-clause-for_loops c = for_again
